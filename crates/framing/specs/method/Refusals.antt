-- Numbers 3 to 9 as the code carries them: which answer each refusal is. 01, "Verdict numbers".
use Rattle.std.specs.Prelude.{ℕ, Result, Ok, Err}
use Rattle.framing.specs.meaning.Record.{answer}
use Rattle.framing.specs.declared.verdict.Verdict.{Verdict}
use Rattle.framing.specs.declared.refusal.Refusal.{Refusal}
use Rattle.framing.specs.declared.refusal.Refusal.TheVariants.{Size, BadByte, TooManySegments, NoRoom, Misplaced, WrongCount, WrongReference}

abbrev pub verdict_of : Refusal → Verdict
verdict_of Size = answer 3 0
verdict_of (BadByte k) = answer 4 k
verdict_of TooManySegments = answer 5 0
verdict_of (NoRoom n) = answer 6 n
verdict_of (Misplaced k) = answer 7 k
verdict_of (WrongCount n) = answer 8 n
verdict_of (WrongReference n) = answer 9 n

-- and of a message that is not refused, number 0 with its segment count
abbrev pub told : Result ℕ Refusal → Verdict
told (Ok n) = answer 0 n
told (Err refusal) = verdict_of refusal
