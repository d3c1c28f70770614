-- What was read are the masks of the definition (`read`), and their ones are counted (`counted`); one law of proofs/Masked.antt for
-- each return. Assumes nothing.
use mathlib.Core.Path.{◌≡◌, sym, ap, ap₂, ◌∙◌}
use Prim.Native.Nat.{◌≤◌}
use lib.ListN.{length, take, length-take}
use native.Mathlib.Omega.{arith}
use Rattle.limits.specs.Limits.{boards_most}
use Rattle.masks.specs.Masks.{sum_ones, masks_rule}
use Rattle.state.specs.Fields.{masks_in}
use Rattle.state.proofs.Columns.{masks-front}
use Rattle.checking.proofs.Masked.{ones-many, rule-broken, rule-kept}
use Rattle.checking.proofs.whole.propositions.Goals as goal

pub sum_ones-p-requires : goal.sum_ones-p-requires
sum_ones-p-requires c =
    let few : length (take c.args.b c.masks_of.new.out) ≤ boards_most = let p = c.requires.2 in omega (arith, length-take c.args.b c.masks_of.new.out) in
    let f = few in omega arith

pub returns-then-p : goal.returns-then-p
returns-then-p c =
    let read : take c.args.b c.masks_of.new.out ≡ masks_in c.args.s.now = masks-front c.args.s.now _ _ c.args.b c.requires.1 c.masks_of.ensures in
    let counted : c.sum_ones-p.result ≡ sum_ones (masks_in c.args.s.now) = c.sum_ones-p.ensures ∙ ap sum_ones (read) in
    let e = counted in sym (ones-many _ (omega arith))

pub follow_rule-requires : goal.follow_rule-requires
follow_rule-requires c =
    let few : length (take c.args.b c.masks_of.new.out) ≤ boards_most = let p = c.requires.2 in omega (arith, length-take c.args.b c.masks_of.new.out) in
    let f = few in (omega arith, omega arith)

pub returns-then-not-follow_rule : goal.returns-then-not-follow_rule
returns-then-not-follow_rule c =
    let read : take c.args.b c.masks_of.new.out ≡ masks_in c.args.s.now = masks-front c.args.s.now _ _ c.args.b c.requires.1 c.masks_of.ensures in
    let counted : c.sum_ones-p.result ≡ sum_ones (masks_in c.args.s.now) = c.sum_ones-p.ensures ∙ ap sum_ones (read) in
    let ruled : let m = masks_in c.args.s.now in masks_rule (sum_ones m) m ≡ c.follow_rule.result = sym (c.follow_rule.ensures ∙ ap₂ masks_rule (counted) (read)) in
    sym (rule-broken _ (ruled ∙ c.if-not-follow_rule.true))

pub returns : goal.returns
returns c =
    let read : take c.args.b c.masks_of.new.out ≡ masks_in c.args.s.now = masks-front c.args.s.now _ _ c.args.b c.requires.1 c.masks_of.ensures in
    let counted : c.sum_ones-p.result ≡ sum_ones (masks_in c.args.s.now) = c.sum_ones-p.ensures ∙ ap sum_ones (read) in
    let ruled : let m = masks_in c.args.s.now in masks_rule (sum_ones m) m ≡ c.follow_rule.result = sym (c.follow_rule.ensures ∙ ap₂ masks_rule (counted) (read)) in
    let e = counted in e ∙ rule-kept _ (omega arith) (ruled ∙ c.if-not-follow_rule.false)
