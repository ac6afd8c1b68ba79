-- The three demands, each under the user's own words. `judged` is the verdict that the promise of `judge` cites, and `tables_after`
-- are the tables that it leaves (judging/specs/method/Table.antt). Closing.antt says the same of the call that is shipped.
use Rattle.std.specs.Prelude.{ℕ, ◌≤◌, ◌<◌, ◌≡◌, ◌↔◌, List, [], ◌∷◌, ◌++◌, Bool, true, false, length, drop}
use Rattle.guide.specs.meaning.Guide.{guide_of}
use Rattle.book.specs.meaning.GoodBook.{GoodBook}
use Rattle.guide.specs.meaning.View.{line_of}
use Rattle.framing.specs.meaning.Limits.{most_bytes, most_segments}
use Rattle.reading.specs.meaning.Service.{All}
use Rattle.reading.specs.meaning.Message.{Message}
use Rattle.reading.specs.meaning.WellFormed.{WellFormed}
use Rattle.reading.specs.declared.service.Service.{Service}
use Rattle.guide.specs.meaning.Plan.{plan_in}
use Rattle.placing.specs.meaning.Fitting.{fits}
use Rattle.placing.specs.meaning.Placement.{Placed, parents_of}
use Rattle.reading.specs.meaning.Starts.{starts_of}
use Rattle.rules.specs.meaning.Conditions.{Assignment, told, Fills, Learns}
use Rattle.rules_laws.specs.meaning.OnTree.{RulesHold}
use Rattle.framing.specs.meaning.Record.{answer}
use Rattle.judging.specs.meaning.Tables.{is_refusal, Tables, room_of}
use Rattle.judging.specs.method.Table.{judged, tables_after}
use Rattle.framing.specs.meaning.Table.{NoneWrong, Misplaced, HasRoom, TellsCount, TellsReference}
use Rattle.demands.specs.meaning.Table.{FitConditions, NoFieldFault, Carries, InBook, TableSays}
use Rattle.framing.specs.declared.message.Room.{Room}
use Rattle.framing.specs.declared.verdict.Verdict.{Verdict}

module _ (s : Service) where
  -- ---- Demand 1: "Any bytes at all, as message, book or conditions, get an answer and the call ends. Nobody has to check anything
  -- first. Refusals 1 to 11 leave the caller's three tables untouched; every other answer leaves the message's tree in them, the same
  -- tree whatever is known of the conditions." (That any bytes get an answer is said of the call itself, in Closing.antt.)

  -- homes of a message's segments; 01: "A segment's home is the segment line of its tag whose codes, if it has a selector, include the
  -- value there."
  abbrev pub Fit : List ℕ → Message → List ℕ → Type 0
  Fit book [] [] = Unit {0}
  Fit book [] (h ∷ hs) = ⊥
  Fit book (x ∷ xs) [] = ⊥
  Fit book (x ∷ xs) (h ∷ hs) = (1 ≤ h) × (h ≤ (guide_of book).lines) × (fits (line_of (guide_of book) h) x ≡ true) × Fit book xs hs

  -- tables that hold a message's starts, its homes and its tree, and behind them what was there before
  pub record HoldTree (bs book : List ℕ) (before after : Tables) : Type 0 where
    pub well_formed : WellFormed s bs
    pub placed_on : List ℕ
    pub fit : Fit book well_formed.message placed_on
    pub placed : Placed (plan_in book) placed_on
    pub starts : after.starts ≡ starts_of s well_formed.message ++ drop (length well_formed.message) before.starts
    pub homes : after.homes ≡ placed_on ++ drop (length well_formed.message) before.homes
    pub parents : after.parents ≡ parents_of placed.tree ++ drop (length well_formed.message) before.parents

  abbrev IsRefused : List ℕ → List ℕ → List ℕ → Tables → Bool → Type 0
  IsRefused bs book cs t v = is_refusal (judged s bs book cs (room_of t)).number ≡ v

  pub record Demand1 (bs book : List ℕ) (t : Tables) : Type 0 where
    pub untouched : (cs : List ℕ) → IsRefused bs book cs t true → tables_after s bs book cs t ≡ t
    pub tree : (cs : List ℕ) → IsRefused bs book cs t false → HoldTree bs book t (tables_after s bs book cs t)
    -- of any two lists that are not refused
    pub same_tree : (cs ds : List ℕ) → IsRefused bs book cs t false → IsRefused bs book ds t false → tables_after s bs book cs t ≡ tables_after s bs book ds t
    -- and, refused or not, of two lists of which one knows more than the other, and of any two fillings of one list
    pub same_later : (cs ds : List ℕ) → Learns cs ds → tables_after s bs book cs t ≡ tables_after s bs book ds t
    pub same_filled : (cs fs hs : List ℕ) → Fills cs fs → Fills cs hs → tables_after s bs book fs t ≡ tables_after s bs book hs t

  -- ---- Demand 2: "Given a good book, a good list of conditions with none unknown, and sizes and tables within the stated limits, a
  -- message is accepted exactly when it is well-formed by ISO 9735 as the papers narrow it, its UNT tells the true count and reference,
  -- and its segments can be placed on the guide's lines so that order, repetition, field form, and the rules of its
  -- Prüfidentifikator, which the book must list, all hold. Otherwise the answer is the first fault in the stated order, at its exact
  -- place."

  pub record Accepted (bs book : List ℕ) (a : Assignment) (n : ℕ) : Type 0 where
    pub well_formed : WellFormed s bs
    pub count : length well_formed.message ≡ n
    -- UNH first, UNT last, and neither anywhere else; the true count and reference
    pub framed : NoneWrong (Misplaced n) 0 well_formed.message
    pub tells_count : TellsCount well_formed.message
    pub tells_reference : TellsReference well_formed.message
    -- its segments can be placed on the guide's lines: order and repetition
    pub placed_on : List ℕ
    pub fit : Fit book well_formed.message placed_on
    pub placed : Placed (plan_in book) placed_on
    -- field form
    pub fields : NoFieldFault s (guide_of book) well_formed.message placed_on
    -- the rules of its Prüfidentifikator
    pub place : ℕ
    pub value : List ℕ
    pub carries : Carries (guide_of book) well_formed.message placed_on place value
    pub identifier : ℕ
    pub in_book : InBook (guide_of book) value identifier
    pub rules : RulesHold (guide_of book) identifier a placed.tree

  -- within the limits of the call
  pub record WithinLimits (bs : List ℕ) (room : Room) : Type 0 where
    pub bytes : length bs ≤ most_bytes
    pub segments : (w : WellFormed s bs) → (length w.message ≤ most_segments) × HasRoom room (length w.message)

  pub record Demand2 (bs book cs : List ℕ) (room : Room) : Type 0 where
    pub accepted : GoodBook book → FitConditions (guide_of book) cs → All (λ c. c < 2) cs → WithinLimits bs room
        → (n : ℕ) → (judged s bs book cs room ≡ answer 0 n) ↔ Accepted bs book (told cs) n
    -- each number with its entries exactly when its row of the table holds and no earlier one does; whatever the inputs
    pub fault : (v : Verdict) → (judged s bs book cs room ≡ v) ↔ TableSays s bs book cs room v

  -- ---- Demand 3: "Call a filling any choice of true or false for each unknown condition, the others kept. A verdict other than "open"
  -- is given exactly when every filling gets that same verdict, place and line included; "open" is given exactly when two fillings get
  -- different ones. So learning more never changes a verdict once given." On all inputs.

  pub record Demand3 (bs book : List ℕ) (room : Room) : Type 0 where
    pub sure : (cs : List ℕ) (v : Verdict) → (v.number ≡ 15 → ⊥) → (judged s bs book cs room ≡ v) ↔ ((fs : List ℕ) → Fills cs fs → judged s bs book fs room ≡ v)
    pub unsure : (cs : List ℕ) → ((judged s bs book cs room).number ≡ 15)
        ↔ ((fs : List ℕ) × (hs : List ℕ) × Fills cs fs × Fills cs hs × (judged s bs book fs room ≡ judged s bs book hs room → ⊥))
    -- a list that knows more keeps every verdict but 15
    pub later : (cs ds : List ℕ) → Learns cs ds → ((judged s bs book cs room).number ≡ 15 → ⊥) → judged s bs book ds room ≡ judged s bs book cs room

-- ---- what is certain: of every message and every guide book, under the standard service characters and under any others that are
-- good, as a file may name them (02, T-03).

pub record Certain (s : Service) : Type 0 where
  pub demand_1 : (bs book : List ℕ) (t : Tables) → Demand1 s bs book t
  pub demand_2 : (bs book cs : List ℕ) (room : Room) → Demand2 s bs book cs room
  pub demand_3 : (bs book : List ℕ) (room : Room) → Demand3 s bs book room
