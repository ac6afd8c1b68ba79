-- The demands, of the call that is shipped: whatever outcome the contract of `tracksaddle_judge` admits keeps the user's three
-- sentences. The contract is the one of crates/tracksaddle/src/lib.rt, as the check reads it (`Reads`), and no copy; what C links has the same, which
-- tracksaddle_c/proofs/Door.antt says. Any slices will do.
use Rattle.std.specs.Prelude.{ℕ, ◌≤◌, ◌<◌, ◌≡◌, ◌↔◌, ◌⊎◌, List, length}
use Rattle.guide.specs.meaning.Guide.{guide_of}
use Rattle.book.specs.meaning.GoodBook.{GoodBook}
use Rattle.reading.specs.meaning.Service.{All, standard}
use Rattle.framing.specs.meaning.Record.{answer, numbers_of}
use Rattle.framing.specs.declared.verdict.Verdict.{Verdict}
use Rattle.rules.specs.meaning.Conditions.{told, Fills, Learns}
use Rattle.judging.specs.meaning.Tables.{Tables, room_of}
use Rattle.slices.specs.meaning.Lent.{as_many_as_fit}
use Rattle.tracksaddle.proofs.tracksaddle_judge.Reads as judge
use Rattle.demands.specs.meaning.Table.{FitConditions, TableSays}
use Rattle.demands.specs.meaning.Demands.{HoldTree, Accepted, WithinLimits}

-- ---- a call: what is handed over, and what comes back

pub record Handed : Type 0 where
  pub message : List ℕ
  pub book : List ℕ
  pub conditions : List ℕ
  -- lent, as they are before the call: the three tables, and the entries of the record
  pub tables : Tables
  pub entries : List ℕ

-- the number that is returned, and what is lent as it is after the call
pub record Left : Type 0 where
  pub number : ℕ
  pub tables : Tables
  pub entries : List ℕ

-- an outcome that the contract admits. The contract has the arguments one in another, in their order: message, book, conditions, starts,
-- homes, parents, and the lent record.
pub record Promised (h : Handed) (l : Left) : Type 1 where
  pub lifetimes : _
  pub passed : _
  pub at_exit : _
  pub promise : judge.Post lifetimes passed l.number at_exit
  pub message : passed.0.now ≡ h.message
  pub book : passed.1.0.now ≡ h.book
  pub conditions : passed.1.1.0.now ≡ h.conditions
  pub starts_before : passed.1.1.1.0.now ≡ h.tables.starts
  pub homes_before : passed.1.1.1.1.0.now ≡ h.tables.homes
  pub parents_before : passed.1.1.1.1.1.0.now ≡ h.tables.parents
  pub entries_before : passed.1.1.1.1.1.1.0.now ≡ h.entries
  pub starts_after : at_exit.1.1.1.0.now ≡ l.tables.starts
  pub homes_after : at_exit.1.1.1.1.0.now ≡ l.tables.homes
  pub parents_after : at_exit.1.1.1.1.1.0.now ≡ l.tables.parents
  pub entries_after : at_exit.1.1.1.1.1.1.0.now ≡ l.entries

-- the same call with another list of conditions
abbrev pub knowing : List ℕ → Handed → Handed
knowing cs h = record { message = h.message; book = h.book; conditions = cs; tables = h.tables; entries = h.entries }

-- the answer is this verdict: its number is returned, and its six numbers stand in the lent record, as many as fit
abbrev pub Answers : Handed → Left → Verdict → Type 0
Answers h l v = (l.number ≡ v.number) × (l.entries ≡ as_many_as_fit (numbers_of v) h.entries)

-- the verdict that 01's table says of what is handed over
abbrev pub Says : Handed → Verdict → Type 0
Says h v = TableSays standard h.message h.book h.conditions (room_of h.tables) v

-- the lent record has room for a whole verdict, so that it can be seen
abbrev pub Shown : Handed → Type 0
Shown h = 6 ≤ length h.entries

-- "every other answer" than refusals 1 to 11
abbrev pub IsOther : Left → Type 0
IsOther l = (l.number ≡ 0) ⊎ (12 ≤ l.number)

-- ---- what every call keeps

pub record Kept (h : Handed) (l : Left) : Type 1 where
  -- the answer is the verdict that the table says, whatever room the record has, and where the whole verdict is shown no other is
  pub verdict : (v : Verdict) × (Says h v × Answers h l v)
  pub one_verdict : Shown h → (v w : Verdict) → Answers h l v → Answers h l w → v ≡ w
  -- Demand 1: "Refusals 1 to 11 leave the caller's three tables untouched; every other answer leaves the message's tree in them, the
  -- same tree whatever is known of the conditions."
  pub untouched : 1 ≤ l.number → l.number ≤ 11 → l.tables ≡ h.tables
  pub tree : IsOther l → HoldTree standard h.message h.book h.tables l.tables
  -- of any two lists whose answers are no refusals; and, refused or not, of two of which one knows more than the other, and of any two
  -- fillings of one
  pub same_tree : (ds : List ℕ) (k : Left) → Promised (knowing ds h) k → IsOther l → IsOther k → l.tables ≡ k.tables
  pub same_later : (ds : List ℕ) (k : Left) → Promised (knowing ds h) k → Learns h.conditions ds → l.tables ≡ k.tables
  pub same_filled : (fs gs : List ℕ) (j k : Left) → Promised (knowing fs h) j → Promised (knowing gs h) k → Fills h.conditions fs → Fills h.conditions gs
      → j.tables ≡ k.tables
  -- Demand 2: "a message is accepted exactly when ..", "Otherwise the answer is the first fault in the stated order, at its exact place."
  pub accepted : GoodBook h.book → FitConditions (guide_of h.book) h.conditions → All (λ c. c < 2) h.conditions
      → WithinLimits standard h.message (room_of h.tables)
      → (l.number ≡ 0 → (n : ℕ) × (Accepted standard h.message h.book (told h.conditions) n × Answers h l (answer 0 n)))
      × ((n : ℕ) → Accepted standard h.message h.book (told h.conditions) n → Answers h l (answer 0 n))
  pub fault : Shown h → (v : Verdict) → Answers h l v ↔ Says h v
  -- Demand 3: "A verdict other than "open" is given exactly when every filling gets that same verdict, place and line included; "open" is
  -- given exactly when two fillings get different ones. So learning more never changes a verdict once given."
  pub sure : Shown h → (v : Verdict) → (v.number ≡ 15 → ⊥)
      → Answers h l v ↔ ((fs : List ℕ) (k : Left) → Fills h.conditions fs → Promised (knowing fs h) k → Answers (knowing fs h) k v)
  pub unsure : Shown h → (l.number ≡ 15)
      ↔ ((fs : List ℕ) × (gs : List ℕ) × Fills h.conditions fs × Fills h.conditions gs
      × ((j k : Left) → Promised (knowing fs h) j → Promised (knowing gs h) k → (v : Verdict) → Answers (knowing fs h) j v → Answers (knowing gs h) k v → ⊥))
  -- and whatever room the record has: another verdict is the table's exactly when the table says it of every filling, and number 15 is
  -- returned exactly when there are two fillings of which the table says different ones
  pub fillings_agree : (v : Verdict) → (v.number ≡ 15 → ⊥) → Says h v ↔ ((fs : List ℕ) → Fills h.conditions fs → Says (knowing fs h) v)
  pub fillings_differ : (l.number ≡ 15)
      ↔ ((fs : List ℕ) × (gs : List ℕ) × Fills h.conditions fs × Fills h.conditions gs
      × ((v : Verdict) → Says (knowing fs h) v → Says (knowing gs h) v → ⊥))
  pub later : (ds : List ℕ) (k : Left) → Promised (knowing ds h) k → Learns h.conditions ds → (l.number ≡ 15 → ⊥) → (v : Verdict) → Answers h l v
      → Answers (knowing ds h) k v

pub record Closing : Type 1 where
  -- Demand 1: "Any bytes at all, as message, book or conditions, get an answer and the call ends. Nobody has to check anything first.":
  -- the contract asks for nothing, and whatever is handed over there is an outcome that it admits. (That the call ends with such a one is
  -- what the check proves of every function.)
  pub asks_nothing : (κs : _) (a : _) → judge.Pre κs a
  pub answers : (h : Handed) → (l : Left) × Promised h l
  pub keeps : (h : Handed) (l : Left) → Promised h l → Kept h l
