-- The masks and the slots of a state, one by one: `masks-at` and `network-at`, with how many there are. Assumes nothing.
use mathlib.Core.Path.{◌≡◌}
use mathlib.Core.List.{List}
use Prim.Native.Nat.{ℕ, ◌<◌}
use lib.ListN.{length, get_or}
use Rattle.lists.proofs.Listed.{listed-length, listed_at}
use Rattle.network.specs.Layout.{slot_at}
use Rattle.state.specs.Fields.{boards_in, slots_in, mask_in, masks_in}
use Rattle.state.specs.Bytes.{slot_in, network_of}

module _ (s : List ℕ) where
  pub masks-length : length (masks_in s) ≡ boards_in s
  masks-length = listed-length (mask_in s) (boards_in s)

  pub masks-at : (i : ℕ) → i < boards_in s → get_or (masks_in s) i 0 ≡ mask_in s i
  masks-at i l = listed_at 0 (mask_in s) (boards_in s) i l

  pub network-length : length (network_of s) ≡ slots_in s
  network-length = listed-length (slot_in s) (slots_in s)

  pub network-at : (k : ℕ) → k < slots_in s → slot_at (network_of s) k ≡ slot_in s k
  network-at k l = listed_at _ (slot_in s) (slots_in s) k l
