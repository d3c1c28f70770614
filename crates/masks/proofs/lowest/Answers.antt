-- `masks::lowest` meets its contract: the machine's count of trailing zeros is the lowest one's place. No loop. Assumes nothing.
use Rattle.masks.proofs.Bits.{trailing-is}
use Rattle.masks.proofs.lowest.Goals as goal

pub returns : goal.returns
returns c = trailing-is 64 _ c.requires c.ranges.mask.fits
