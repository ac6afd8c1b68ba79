-- `message::makes` meets its contract. The invariant, `Making`: what is left to be tested decides as the whole does, and so far the
-- digits make no more than the number.
use Rattle.framing.proofs.Decimals.{Making}
use Rattle.framing.proofs.message.makes.Given as goal

abbrev pub invariant-loop-byte : goal.invariant-loop-byte
invariant-loop-byte l = Making l.number l.value l.made l.byte-index
