-- The verdict by 01's table, top to bottom, and the tables that it leaves: as it is worked out, for any bytes and any service
-- characters. What each number means is said in demands/specs/meaning/Table.antt, and the demands say that it is this.
use Rattle.std.specs.Prelude.{ℕ, ◌-◌, List, Option, cond, ◌&&◌, eqb, length, get_or}
use Rattle.guide.specs.meaning.Guide.{Guide, guide_of}
use Rattle.book.specs.method.Each.{is_good}
use Rattle.reading.specs.declared.service.Service.{Service}
use Rattle.framing.specs.meaning.Record.{answer}
use Rattle.framing.specs.method.Stages.{or_else, component_at, message_stage}
use Rattle.framing.specs.declared.message.Room.{Room}
use Rattle.framing.specs.declared.verdict.Verdict.{Verdict}
use Rattle.guide.specs.meaning.Plan.{plan_in}
use Rattle.reading.specs.method.Starts.{starts_from, starts_table}
use Rattle.placing.specs.method.Passes.{homes_from, tested, homes_table, parents_table}
use Rattle.placing.specs.method.Tables.{place_from}
use Rattle.fields.specs.method.Testing.{first_fault}
use Rattle.rules.specs.method.Conditions.{are_truth_values}
use Rattle.rules.specs.method.Identifiers.{identified}
use Rattle.rules.specs.method.Scanning.{scanned_row}
use Rattle.judging.specs.method.Answers.{placing_verdict, fields_verdict, identified_verdict, rows_verdict}
use Rattle.judging.specs.meaning.Tables.{is_refusal, Tables, room_of}

-- ---- numbers 1 and 2

-- 01, number 1: "book malformed"
abbrev pub book_stage : List ℕ → Verdict
book_stage book = cond (is_good book) (answer 0 0) (answer 1 0)

-- 01, number 2: "conditions not as many as the book says, or a byte above 2"
abbrev pub conditions_stage : Guide → List ℕ → Verdict
conditions_stage g cs = cond (eqb (length cs) g.conditions && are_truth_values cs) (answer 0 0) (answer 2 0)

-- ---- numbers 10 and 11

abbrev pub placing_stage : Service → List ℕ → List ℕ → ℕ → Verdict
placing_stage s bs book n = placing_verdict n (tested (plan_in book) (homes_from s bs book n 0))

-- ---- numbers 1 to 11; number 0 and the segment count if there is none of these

unfoldable pub refusal : Service → List ℕ → List ℕ → List ℕ → Room → Verdict
refusal s bs book cs room =
    or_else (book_stage book)
    (or_else (conditions_stage (guide_of book) cs) (or_else (message_stage s bs room) (placing_stage s bs book (message_stage s bs room).place.at)))

-- ---- numbers 12 to 15, of a message that is placed: n segments with their starts and homes

-- where the Prüfidentifikator's segment is
abbrev pub carrier_place : Guide → List ℕ → ℕ
carrier_place g hs = place_from g.carrier 0 hs

-- 01, number 13: "element 1 component 2 of the Prüfidentifikator's segment"
abbrev pub identifier_in : Service → Guide → List ℕ → List ℕ → List ℕ → List ℕ
identifier_in s g bs starts hs = component_at s bs (get_or starts (carrier_place g hs - 1) 0) 1 2

abbrev pub identifier_verdict : Guide → List ℕ → ℕ → List ℕ → Option ℕ → Verdict
identifier_verdict g cs n hs i = identified_verdict (carrier_place g hs) i (λ p. rows_verdict n (scanned_row g p cs hs))

abbrev pub placed_verdict : Service → Guide → List ℕ → List ℕ → ℕ → List ℕ → List ℕ → Verdict
placed_verdict s g bs cs n starts hs =
    fields_verdict (first_fault s g bs 0 starts hs) (identifier_verdict g cs n hs (identified g (identifier_in s g bs starts hs)))

unfoldable pub placed_stage : Service → List ℕ → List ℕ → List ℕ → ℕ → Verdict
placed_stage s bs book cs n = placed_verdict s (guide_of book) bs cs n (starts_from s bs n 0) (homes_from s bs book n 0)

-- ---- all of it

unfoldable pub judged : Service → List ℕ → List ℕ → List ℕ → Room → Verdict
judged s bs book cs room = or_else (refusal s bs book cs room) (placed_stage s bs book cs (refusal s bs book cs room).place.at)

-- 01: "Numbers 1–11 change no table. The others write n entries in each (tag offsets, line numbers, the tree) and change none
-- beyond."
abbrev pub unless_refused : Verdict → List ℕ → List ℕ → List ℕ
unless_refused v before after = cond (is_refusal v.number) before after

abbrev pub tables_after : Service → List ℕ → List ℕ → List ℕ → Tables → Tables
tables_after s bs book cs t =
    record {
      starts = unless_refused (judged s bs book cs (room_of t)) t.starts (starts_table s bs (refusal s bs book cs (room_of t)).place.at t.starts);
      homes = unless_refused (judged s bs book cs (room_of t)) t.homes (homes_table s bs book (refusal s bs book cs (room_of t)).place.at t.homes);
      parents = unless_refused (judged s bs book cs (room_of t)) t.parents (parents_table s bs book (refusal s bs book cs (room_of t)).place.at t.parents);
    }
