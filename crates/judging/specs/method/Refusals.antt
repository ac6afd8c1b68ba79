-- Numbers 1 to 11 as the code carries them: which answer each refusal is. 01, "Verdict numbers".
use Rattle.std.specs.Prelude.{ℕ, Result, Ok, Err}
use Rattle.framing.specs.meaning.Record.{answer}
use Rattle.framing.specs.method.Refusals as framing
use Rattle.framing.specs.declared.verdict.Verdict.{Verdict}
use Rattle.judging.specs.declared.refusing.Refusal.{Refusal}
use Rattle.judging.specs.declared.refusing.Refusal.TheVariants.{Book, Conditions, Message, Placing}
use Rattle.placing.specs.declared.passes.Unplaced.TheVariants.{NoHome, Stops}

abbrev pub verdict_of : Refusal → Verdict
verdict_of Book = answer 1 0
verdict_of Conditions = answer 2 0
verdict_of (Message refusal) = framing.verdict_of refusal
verdict_of (Placing (NoHome k)) = answer 10 k
verdict_of (Placing (Stops k)) = answer 11 k

-- and of a call that is not refused, number 0 with the segment count
abbrev pub told : Result ℕ Refusal → Verdict
told (Ok n) = answer 0 n
told (Err refusal) = verdict_of refusal
