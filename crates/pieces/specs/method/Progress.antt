-- A message read in pieces, byte by byte: what a byte makes of the progress so far and of the table that is lent with it, and what the end answers.
use Rattle.std.specs.Prelude.{ℕ, ◌+◌, List, [], ◌∷◌, Bool, cond, ◌&&◌, ◌||◌, leb, ltb, length, set}
use Rattle.slices.specs.method.Entries.{entry}
use Rattle.reading.specs.method.Machine.{stepped, is_start, is_dead}
use Rattle.reading.specs.declared.service.Service.{Service}
use Rattle.reading.specs.declared.machine.State.{State}
use Rattle.reading.specs.declared.machine.State.TheVariants.{Start, Dead}
use Rattle.framing.specs.meaning.Limits.{most_bytes, most_segments}
use Rattle.framing.specs.meaning.Record.{answer}
use Rattle.framing.specs.declared.verdict.Verdict.{Verdict}
use Rattle.pieces.specs.declared.progress.Progress.{Progress}

-- one more, up to one over the most
abbrev pub one_more : ℕ → ℕ → ℕ
one_more most n = cond (leb n most) (n + 1) n

-- ---- what a byte makes of it, by the state that it leads to

-- where reading went wrong, or has come to
abbrev pub reached_before : Progress → ℕ → ℕ
reached_before p at = cond (is_dead p.state) p.bad at

abbrev pub reached : Progress → ℕ
reached p = reached_before p p.bytes

-- so many segments have ended, and the start of the next is to be told: a table of so many entries has none for it
abbrev pub lacks : ℕ → ℕ → Bool
lacks segments room = ltb segments most_segments && leb room segments

abbrev pub with_start : ℕ → ℕ → List ℕ → List ℕ
with_start segments start table = cond (ltb segments most_segments) (set table segments (entry start)) table

-- a segment has ended in front of an offset: so many are counted, and this one's start found no entry, or did
abbrev pub ended_with : Progress → ℕ → ℕ → Bool → Progress
ended_with p behind n lacks-one = record {
  ended = p.ended;
  state = Start;
  bytes = behind;
  bad = p.bad;
  segments = n;
  start = behind;
  lacking = p.lacking || lacks-one;
}

abbrev pub segment_ended : Progress → ℕ → ℕ → Progress
segment_ended p room behind = ended_with p behind (one_more most_segments p.segments) (lacks p.segments room)

abbrev pub failed_at : Progress → ℕ → ℕ → Progress
failed_at p at bytes = record {
  ended = p.ended;
  state = Dead;
  bytes = bytes;
  bad = reached_before p at;
  segments = p.segments;
  start = p.start;
  lacking = p.lacking;
}

abbrev pub gone_on : Progress → State → ℕ → Progress
gone_on p q bytes = record {
  ended = p.ended;
  state = q;
  bytes = bytes;
  bad = p.bad;
  segments = p.segments;
  start = p.start;
  lacking = p.lacking;
}

-- behind a byte that leads to state q
abbrev pub moved_to : State → Progress → ℕ → Progress
moved_to q p room =
    cond (is_start q) (segment_ended p room (p.bytes + 1))
    (cond (is_dead q) (failed_at p p.bytes (p.bytes + 1)) (gone_on p q (p.bytes + 1)))

-- ---- a byte, and any bytes, with the table that is lent with them

pub record Held : Type 0 where
  pub progress : Progress
  pub starts : List ℕ

abbrev pub held : Progress → List ℕ → Held
held p table = record { progress = p; starts = table }

-- bytes behind the most are counted, once, and not looked at
abbrev pub progress_by : Service → Progress → ℕ → ℕ → Progress
progress_by s p room b =
    cond (ltb p.bytes most_bytes) (moved_to (stepped s p.state b) p room) (gone_on p p.state (one_more most_bytes p.bytes))

abbrev pub starts_by : Service → Progress → List ℕ → ℕ → List ℕ
starts_by s p table b =
    cond (ltb p.bytes most_bytes && is_start (stepped s p.state b)) (with_start p.segments p.start table) table

abbrev pub held_by : Service → Held → ℕ → Held
held_by s x b = held (progress_by s x.progress (length x.starts) b) (starts_by s x.progress x.starts b)

unfoldable pub held_after : Service → Held → List ℕ → Held
held_after s x [] = x
held_after s x (b ∷ bs) = held_after s (held_by s x b) bs

-- ---- the end

abbrev pub is_complete : Progress → Bool
is_complete p = is_start p.state && ltb 0 p.segments

-- numbers 3 to 6 in 01's order, and 0 with the segments' number
unfoldable pub answer_of : Progress → Verdict
answer_of p =
    cond (ltb 0 p.bytes && leb p.bytes most_bytes)
    (cond (is_complete p)
    (cond (leb p.segments most_segments)
    (cond p.lacking (answer 6 (entry p.segments)) (answer 0 (entry p.segments)))
    (answer 5 0))
    (answer 4 (entry (reached p))))
    (answer 3 0)
