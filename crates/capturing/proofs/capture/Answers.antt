-- The second buffer's length, then how the state is found decides: a law of proofs/Outcomes.antt for each refusal, and the run of a watch
-- that goes on. Assumes nothing.
use mathlib.Core.Path.{◌≡◌, sym, ap, subst, ◌∙◌}
use lib.ListN.{length}
use Rattle.opening.specs.declared.Opening.{Opening}
use Rattle.opening.specs.Opening.{Opens}
use Rattle.state.specs.Form.{form_in, state_length}
use Rattle.capturing.proofs.Outcomes.{capture-length, capture-state, capture-finished, capture-ran}
use Rattle.capturing.proofs.capture.Goals as goal

pub returns-then-second-length : goal.returns-then-second-length
returns-then-second-length c =
    let long-is : c.length.result ≡ state_length (form_in c.args.state.now) = c.length.ensures ∙ ap state_length c.from-form.ensures in
    capture-length _ _ _ (λ e. c.if-second-length.true (e ∙ sym (long-is)))

pub capture_going-requires : goal.capture_going-requires
capture_going-requires c =
    let opens : (o : Opening) → c.open-opened.result ≡ o → Opens c.args.state.now o = λ o. λ e. subst (Opens c.args.state.now) e c.open-opened.ensures in
    let long-is : c.length.result ≡ state_length (form_in c.args.state.now) = c.length.ensures ∙ ap state_length c.from-form.ensures in
    let long : length c.args.second.now ≡ state_length (form_in c.args.state.now) = c.if-second-length.false ∙ long-is in
    let o = opens _ c.in-Going.is in
    record { going = record { opened = o.0; unfinished = o.1 }; long = long }

pub returns-in-Broken : goal.returns-in-Broken
returns-in-Broken c =
    let long-is : c.length.result ≡ state_length (form_in c.args.state.now) = c.length.ensures ∙ ap state_length c.from-form.ensures in
    let long : length c.args.second.now ≡ state_length (form_in c.args.state.now) = c.if-second-length.false ∙ long-is in
    let opens : (o : Opening) → c.open-opened.result ≡ o → Opens c.args.state.now o = λ o. λ e. subst (Opens c.args.state.now) e c.open-opened.ensures in
    capture-state _ _ _ (long) (opens _ c.in-Broken.is)

pub returns-in-Finished : goal.returns-in-Finished
returns-in-Finished c =
    let opens : (o : Opening) → c.open-opened.result ≡ o → Opens c.args.state.now o = λ o. λ e. subst (Opens c.args.state.now) e c.open-opened.ensures in
    let long-is : c.length.result ≡ state_length (form_in c.args.state.now) = c.length.ensures ∙ ap state_length c.from-form.ensures in
    let long : length c.args.second.now ≡ state_length (form_in c.args.state.now) = c.if-second-length.false ∙ long-is in
    let o = opens _ c.in-Finished.is in
    capture-finished _ _ _ (long) o.0.passes o.1

pub returns-in-Going : goal.returns-in-Going
returns-in-Going c =
    let opens : (o : Opening) → c.open-opened.result ≡ o → Opens c.args.state.now o = λ o. λ e. subst (Opens c.args.state.now) e c.open-opened.ensures in
    let long-is : c.length.result ≡ state_length (form_in c.args.state.now) = c.length.ensures ∙ ap state_length c.from-form.ensures in
    let long : length c.args.second.now ≡ state_length (form_in c.args.state.now) = c.if-second-length.false ∙ long-is in
    let o = opens _ c.in-Going.is in
    capture-ran _ _ _ (long) o.0.passes o.1 c.capture_going.ensures
