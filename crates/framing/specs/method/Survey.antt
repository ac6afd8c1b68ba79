-- What one pass over a message finds: the scan's answer and, for a well-formed message, its frame.
use Rattle.std.specs.Prelude.{ℕ, List, Option, Some, None, Result, Ok, Err}
use Rattle.reading.specs.method.Machine.{scanned}
use Rattle.reading.specs.declared.service.Service.{Service}
use Rattle.reading.specs.method.Outcome.{Outcome, Segments, BadAt}
use Rattle.framing.specs.method.Stages.{Frame, frame_of}
use Rattle.framing.specs.declared.refusal.Refusal.{Refusal}
use Rattle.framing.specs.declared.refusal.Refusal.TheVariants.{BadByte, Misplaced}
use Rattle.framing.specs.declared.survey.Survey.{Survey}

abbrev pub survey_by : Service → List ℕ → Outcome → Result Survey Refusal
survey_by s bs (BadAt k) = Err (BadByte k)
survey_by s bs (Segments n) = Ok (record { segments = n; frame = frame_of s bs n })

abbrev pub surveyed : Service → List ℕ → Result Survey Refusal
surveyed s bs = survey_by s bs (scanned s bs)

-- a frame, unless a misplaced segment has been found before
abbrev pub unless_misplaced : Option ℕ → Frame → Frame
unless_misplaced (Some k) frame = Err (Misplaced k)
unless_misplaced None frame = frame
