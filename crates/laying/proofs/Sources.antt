-- The bytes and tags from a place on are still a source of slots: `source-tail`. Assumes nothing.
use mathlib.Core.Path.{sym, ◌∙◌}
use mathlib.Core.List.{List}
use mathlib.Core.Option.{Option}
use Prim.Native.Nat.{ℕ, ◌+◌, ◌≤◌}
use native.Mathlib.Omega.{arith}
use lib.ListN.{length}
use lib.Seq.{get_or-drop, drop-drop}
use Rattle.lists.specs.Runs.{tail}
use Rattle.lists.proofs.Parts.{tail-is, tail-length}
use Rattle.ltl.specs.Formula.{Formula}
use Rattle.network.specs.Layout.{Laid}
use Rattle.laying.specs.Lays.{Source}

module _ {choose : Formula → Option ℕ} {hold : ℕ → ℕ → Laid} (a : ℕ) (u tags : List ℕ) where
  pub source-tail : a ≤ length u → Source choose hold u tags → Source choose hold (tail a u) (tail a tags)
  source-tail l s =
      record {
        long = let x = tail-length a u in let y = tail-length a tags in let z = s.long in omega arith;
        held = λ i m k n e.
            (let x = tail-length a u in
            let h = s.held (a + i) m (omega arith) n (sym (get_or-drop a u i 0) ∙ (rw (tail-is a u) at e)) in
            rw (tail-is a u, tail-is a tags, drop-drop i a u, drop-drop i a tags) h);
        single = s.single;
        boards = s.boards;
      }
