-- What each row of 01's table says, without a word about how it is found out: of the abstract message, its placement, and the
-- fillings. To be read beside "Verdict numbers", from the end: "It stops at the first fault in this order." Numbers 3 to 9 are said in
-- framing/specs/meaning/Table.antt.
use Rattle.std.specs.Prelude.{ℕ, suc, ◌≤◌, ◌<◌, ◌≡◌, ◌⊎◌, List, [], ◌∷◌, true, length}
use Rattle.guide.specs.meaning.Guide.{Guide, guide_of}
use Rattle.book.specs.meaning.GoodBook.{GoodBook}
use Rattle.guide.specs.meaning.View.{line_of}
use Rattle.reading.specs.meaning.Service.{All}
use Rattle.reading.specs.meaning.Message.{Segment, Message}
use Rattle.reading.specs.meaning.Component.{value_at}
use Rattle.reading.specs.declared.service.Service.{Service}
use Rattle.guide.specs.meaning.Plan.{plan_in}
use Rattle.placing.specs.meaning.Fitting.{homes_in}
use Rattle.placing.specs.meaning.Placement.{Placed, Stops, parents_of}
use Rattle.placing.specs.meaning.Answers.{HaveHomes, FirstWithout}
use Rattle.fields.specs.meaning.Fields.{In, LeastFault, at_fault}
use Rattle.std.specs.Prelude.{Ok}
use Rattle.rules.specs.meaning.Conditions.{is_unknown}
use Rattle.rules.specs.meaning.Entries.{Entry, entries_of, SomeBreaks, EveryBreaks}
use Rattle.rules.specs.meaning.Identifiers.{identifier_value}
use Rattle.framing.specs.meaning.Record.{place, verdict, answer}
use Rattle.framing.specs.declared.message.Room.{Room}
use Rattle.framing.specs.declared.verdict.Place.{Place}
use Rattle.framing.specs.declared.verdict.Verdict.{Verdict}
use Rattle.framing.specs.meaning.Table.{Unless, BytesSay}

-- ---- the conditions: number 2

-- 01, number 2: "conditions not as many as the book says, or a byte above 2 (0 false, 1 true, 2 unknown)" is not the case
pub record FitConditions (g : Guide) (cs : List ℕ) : Type 0 where
  pub as_many : length cs ≡ g.conditions
  pub bytes : All (λ c. c ≤ 2) cs

-- ---- field faults: number 12

module _ (s : Service) (g : Guide) where
  -- 01: "first place, its line, and the smallest (element, component) at fault there"
  abbrev pub FieldFault : ℕ → Message → List ℕ → Place → Type 0
  FieldFault k [] hs p = ⊥
  FieldFault k (x ∷ xs) [] p = ⊥
  FieldFault k (x ∷ xs) (l ∷ ls) p =
      ((e : ℕ) × (c : ℕ) × LeastFault s (line_of g l).fields (value_at x) (at_fault e c) × (p ≡ place (suc k) l e c))
      ⊎ (LeastFault s (line_of g l).fields (value_at x) (Ok tt) × FieldFault (suc k) xs ls p)

  abbrev pub NoFieldFault : Message → List ℕ → Type 0
  NoFieldFault [] hs = Unit {0}
  NoFieldFault (x ∷ xs) [] = Unit {0}
  NoFieldFault (x ∷ xs) (l ∷ ls) = LeastFault s (line_of g l).fields (value_at x) (Ok tt) × NoFieldFault xs ls

-- ---- the Prüfidentifikator: number 13

-- segment y, at place p, is the first whose home is line l; in an allowed sequence it is the only one (law one_identifier)
abbrev pub IsOf : ℕ → ℕ → Message → List ℕ → ℕ → Segment → Type 0
IsOf l k [] hs p y = ⊥
IsOf l k (x ∷ xs) [] p y = ⊥
IsOf l k (x ∷ xs) (h ∷ hs) p y = ((h ≡ l) × (p ≡ suc k) × (x ≡ y)) ⊎ ((h ≡ l → ⊥) × IsOf l (suc k) xs hs p y)

-- 01: "element 1 component 2 of the Prüfidentifikator's segment"
pub record Carries (g : Guide) (m : Message) (hs : List ℕ) (k : ℕ) (value : List ℕ) : Type 0 where
  pub segment : Segment
  pub there : IsOf g.carrier 0 m hs k segment
  pub same : value_at segment 1 2 ≡ value

-- and what "is not in the book" denies: the value is that of Prüfidentifikator p
abbrev pub InBook : Guide → List ℕ → ℕ → Type 0
InBook g value p = (p < g.identifiers) × (value ≡ identifier_value g p)

-- ---- the rows: numbers 14 and 15. Which fillings break one stands in rules/specs/meaning/Entries.antt.

-- 01: "lowest unknown condition of the row"
pub record LowestUnknown (cs ks : List ℕ) (k : ℕ) : Type 0 where
  pub named : In k ks
  pub unknown : is_unknown cs k ≡ true
  pub lowest : All (λ j. is_unknown cs j ≡ true → k ≤ j) ks

-- 01: "14 and 15 speak of the first row, by line and then by instance, that some filling breaks."
abbrev pub RowsSay : List ℕ → ℕ → List Entry → Verdict → Type 0
RowsSay cs n [] v = v ≡ answer 0 n
RowsSay cs n (e ∷ es) v =
    (SomeBreaks cs e
    × ((EveryBreaks cs e × (v ≡ verdict 14 (place e.place e.line 0 0) 0))
    ⊎ ((EveryBreaks cs e → ⊥) × ((k : ℕ) × LowestUnknown cs e.conditions k × (v ≡ verdict 15 (place e.place e.line 0 0) k)))))
    ⊎ ((SomeBreaks cs e → ⊥) × RowsSay cs n es v)

-- ---- the table

module _ (s : Service) (bs book cs : List ℕ) (room : Room) where
  abbrev guide : Guide
  guide = guide_of book

  -- 12 to 15, and 0: of a message that is placed
  abbrev pub RulesSay : Message → List ℕ → List ℕ → Verdict → Type 0
  RulesSay m hs ps v =
      (k : ℕ) × (value : List ℕ) × Carries guide m hs k value
      × ((((p : ℕ) → InBook guide value p → ⊥) × (v ≡ answer 13 k))
      ⊎ ((p : ℕ) × InBook guide value p × RowsSay cs (length m) (entries_of guide p hs ps) v))

  abbrev pub PlacedSays : Message → List ℕ → List ℕ → Verdict → Type 0
  PlacedSays m hs ps v =
      ((p : Place) × FieldFault s guide 0 m hs p × (v ≡ verdict 12 p 0)) ⊎ (NoFieldFault s guide m hs × RulesSay m hs ps v)

  -- 10 and 11
  abbrev pub HomesSay : Message → List ℕ → Verdict → Type 0
  HomesSay m hs v =
      ((k : ℕ) × FirstWithout hs k × (v ≡ answer 10 k))
      ⊎ (HaveHomes hs
      × (((k : ℕ) × Stops (plan_in book) hs k × (v ≡ answer 11 k)) ⊎ ((t : Placed (plan_in book) hs) × PlacedSays m hs (parents_of t.tree) v)))

  -- 1 and 2, then 3 to 9 (framing/specs/meaning/Table.antt), and all
  abbrev pub TableSays : Verdict → Type 0
  TableSays v =
      Unless (GoodBook book) (v ≡ answer 1 0)
      (Unless (FitConditions guide cs) (v ≡ answer 2 0) (BytesSay s bs room (λ m. HomesSay m (homes_in book m)) v))
