-- Numbers 12 to 15 as the code carries them: which answer each fault of a placed message is. 01, "Verdict numbers".
use Rattle.std.specs.Prelude.{⊤, ℕ, Result, Ok, Err}
use Rattle.framing.specs.meaning.Record.{place, verdict, answer}
use Rattle.framing.specs.declared.verdict.Verdict.{Verdict}
use Rattle.judging.specs.declared.placed.Fault.{Fault}
use Rattle.judging.specs.declared.placed.Fault.TheVariants.{Field, Foreign, Row}
use Rattle.rules.specs.declared.finding.Finding.TheVariants.{Broken, Unsettled}

abbrev pub verdict_of : Fault → Verdict
verdict_of (Field k) = verdict 12 k 0
verdict_of (Foreign k) = answer 13 k
verdict_of (Row (Broken k l)) = verdict 14 (place k l 0 0) 0
verdict_of (Row (Unsettled k l c)) = verdict 15 (place k l 0 0) c

-- and of a message without one, number 0 with the segment count
abbrev pub told : ℕ → Result ⊤ Fault → Verdict
told n (Ok _) = answer 0 n
told n (Err fault) = verdict_of fault
