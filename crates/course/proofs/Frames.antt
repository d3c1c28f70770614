-- What neither a sample nor a step touches stays through any number of them: `framed-none` for none, `framed_then` for those made
-- so far and one more. Assumes nothing.
use mathlib.Core.Path.{refl, ◌∙◌}
use mathlib.Core.List.{List}
use Prim.Native.Nat.{ℕ}
use native.Mathlib.Omega.{arith}
use Rattle.state.proofs.Framed.{Framed}

pub framed-none : (s : List ℕ) → Framed s s
framed-none s =
    record {
      long = refl;
      boards = refl;
      slots = refl;
      nodes = refl;
      ticks = refl;
      places = refl;
      mask = λ b l. refl;
      board = λ k l. refl;
      start = λ k l. refl;
      rest = refl;
    }

pub framed_then : {s t u : List ℕ} → Framed s t → Framed t u → Framed s u
framed_then f g =
    let b = f.boards in
    let n = f.slots in
    record {
      long = g.long ∙ f.long;
      boards = g.boards ∙ f.boards;
      slots = g.slots ∙ f.slots;
      nodes = g.nodes ∙ f.nodes;
      ticks = g.ticks ∙ f.ticks;
      places = g.places ∙ f.places;
      mask = λ i l. g.mask i (omega arith) ∙ f.mask i l;
      board = λ k l. g.board k (omega arith) ∙ f.board k l;
      start = λ k l. g.start k (omega arith) ∙ f.start k l;
      rest = g.rest ∙ f.rest;
    }
