-- A placed message says what the table says: numbers 12 to 15, and 0.
use Prim.Native.Nat.{ℕ, zero, suc, ◌+◌, ◌-◌, ◌≤◌, ◌<◌}
use native.Mathlib.Omega.{arith}
use mathlib.Core.Path.{◌≡◌, refl, sym, ap, ap₂, ◌∙◌, subst}
use mathlib.Core.List.{List, [], ◌∷◌, append-nil}
use mathlib.Core.Logic.{◌↔◌, inl, inr}
use lib.ListN.{length, get_or}
use borrow.Author.Tests.{le-leb}
use Rattle.guide.specs.meaning.Guide.{Guide, guide_of}
use Rattle.book.specs.meaning.GoodBook.{GoodBook, identifier_form_rule}
use Rattle.book_laws.proofs.Clauses.{identifier_rule_lem}
use Rattle.reading.specs.meaning.Service.{All, GoodService}
use Rattle.reading.specs.meaning.Message.{Component, Segment, Message, write_component}
use Rattle.reading.specs.meaning.Component.{value_at}
use Rattle.reading.specs.meaning.WellFormed.{WellFormed}
use Rattle.reading.specs.declared.service.Service.{Service}
use Rattle.reading_laws.proofs.Lists.{all_map}
use Rattle.reading_laws.proofs.Values.{part_is_value}
use Rattle.reading_laws.proofs.OneReading.{IsWord, raw_is_value, word_written}
use Rattle.guide.specs.meaning.Plan.{Plan, plan_in}
use Rattle.placing.specs.meaning.Fitting.{homes_in}
use Rattle.placing.specs.meaning.Placement.{Placed, parents_of}
use Rattle.placing.specs.meaning.Answers.{HaveHomes}
use Rattle.reading.specs.meaning.Starts.{starts_of}
use Rattle.placing_laws.proofs.Messages.{found_homes}
use Rattle.reading_laws.proofs.Starts.{found_starts}
use Rattle.placing_laws.proofs.OneIdentifier.{one_identifier}
use Rattle.reading.specs.meaning.Digit.{is_digit}
use Rattle.fields.specs.meaning.Number.{GoodMark}
use Rattle.fields.specs.method.Testing.{first_fault}
use Rattle.std.specs.Prelude.{⊤, Option, Some, None, Result}
use Rattle.fields.specs.declared.passes.FirstFault.{FirstFault}
use Rattle.rules.specs.meaning.Entries.{Entry, entries_of}
use Rattle.rules.specs.meaning.Identifiers.{identifier_value}
use Rattle.rules.specs.method.Identifiers.{identified}
use Rattle.rules_laws.proofs.Identifiers.{identified_known, identified_foreign, known_identified}
use Rattle.rules_laws.proofs.Findings.{open_lowest, OpenLowest}
use Rattle.rules_laws.proofs.Keys.{looks}
use Rattle.rules_laws.proofs.Lines.{Homed, placed_homed}
use Rattle.framing.specs.meaning.Record.{place, verdict, answer}
use Rattle.framing.specs.method.Stages.{component_at}
use Rattle.judging.specs.method.Table.{carrier_place, identifier_in, identifier_verdict, placed_verdict, placed_stage}
use Rattle.judging.specs.method.Answers.{rows_verdict, fields_verdict}
use Rattle.demands.specs.meaning.Table.{Carries, InBook, RowsSay, RulesSay, PlacedSays}
use Rattle.framing.specs.declared.message.Room.{Room}
use Rattle.framing.specs.declared.verdict.Place.{Place}
use Rattle.framing.specs.declared.verdict.Verdict.{Verdict}
use Rattle.reading_laws.proofs.Services.{digit_word}
use Rattle.demands.proofs.RowsOnTree.{rows_on_tree}
use Rattle.rules.specs.method.Scanning.{scanned_row}
use Rattle.rules.specs.method.Scanning.{Outcome}
use Rattle.demands.proofs.RowsTell.{OpensLowest, rows_say}
use Rattle.demands.proofs.FieldsTell.{FieldsSaid, faulty, clean, fields_said, one_field_fault, fault_or_none}
use Rattle.demands.proofs.Carrying.{Carried, carried, one_of}

-- every segment of a placed message has a home
homed_have : (hs : List ℕ) → Homed hs → HaveHomes hs
homed_have [] h j i = absurd (omega arith)
homed_have (x ∷ hs) h zero i = let n = h.0 in omega arith
homed_have (x ∷ hs) h (suc j) i = homed_have hs h.1 j (omega arith)

pub placed_have : (b : Plan) (hs : List ℕ) → Placed b hs → HaveHomes hs
placed_have b hs t = homed_have hs (placed_homed b hs t)

-- ---- a Prüfidentifikator is written as it is

digit : (b : ℕ) → 0x30 ≤ b → b ≤ 0x39 → IsWord b
unfolding is_digit
digit b h k = digit_word b (rw (le-leb 0x30 b h, le-leb b 0x39 k))

module _ (book : List ℕ) (good : GoodBook book) where
  identifier_words : (p : ℕ) → p < (guide_of book).identifiers → All IsWord (identifier_value (guide_of book) p)
  unfolding identifier_form_rule
  identifier_words p h =
      let r = (identifier_rule_lem book good p h).0.0 in (
        digit _ r.0.0 r.0.1,
        (
          digit _ r.1.0.0 r.1.0.1,
          (
            digit _ r.1.1.0.0 r.1.1.0.1,
            (digit _ r.1.1.1.0.0 r.1.1.1.0.1, (digit _ r.1.1.1.1.0 r.1.1.1.1.1, tt)),
          ),
        ),
      )

  module _ (s : Service) (service : GoodService s) where
    identifier_written : (p : ℕ) → p < (guide_of book).identifiers → write_component s (identifier_value (guide_of book) p) [] ≡ identifier_value (guide_of book) p
    identifier_written p h = word_written s service (identifier_value (guide_of book) p) [] (identifier_words p h) ∙ append-nil (identifier_value (guide_of book) p)

    -- so it can be told by what is written
    pub in_book_written : (value : Component) (p : ℕ) → InBook (guide_of book) value p → write_component s value [] ≡ identifier_value (guide_of book) p
    in_book_written value p i = ap (λ (x : Component). write_component s x []) i.1 ∙ identifier_written p i.0

    pub written_in_book : (value : Component) (p : ℕ) → p < (guide_of book).identifiers → write_component s value [] ≡ identifier_value (guide_of book) p → InBook (guide_of book) value p
    written_in_book value p h e = (h, (raw_is_value s value (identifier_value (guide_of book) p)).0 (e ∙ sym (identifier_written p h)))

-- ---- the stages

module _ (s : Service) (service : GoodService s) (mark : GoodMark s) (bs book cs : List ℕ) (room : Room) (v : Verdict) (good : GoodBook book)
    (w : WellFormed s bs) (t : Placed (plan_in book) (homes_in book w.message)) where
  abbrev g : Guide
  g = guide_of book

  abbrev m : Message
  m = w.message

  abbrev n : ℕ
  n = length w.message

  abbrev hs : List ℕ
  hs = homes_in book m

  abbrev ps : List ℕ
  ps = parents_of t.tree

  abbrev starts : List ℕ
  starts = starts_of s w.message

  -- ---- number 13: the Prüfidentifikator's segment

  there : Carried s service g g.carrier bs 0 m starts
  there = carried s service g g.carrier bs w (let o = one_identifier book good hs t in omega arith)

  abbrev value : Component
  value = value_at there.segment 1 2

  carries : Carries g m hs (suc (0 + there.index)) value
  carries = record { segment = there.segment; there = there.is; same = refl }

  carrier_at : carrier_place g hs ≡ suc (0 + there.index)
  carrier_at = there.place

  raw : identifier_in s g bs starts hs ≡ write_component s value []
  raw =
      let index : suc (0 + there.index) - 1 ≡ there.index = omega arith in
      ap (λ (k : ℕ). component_at s bs (get_or starts k 0) 1 2) (ap (λ (k : ℕ). k - 1) carrier_at ∙ index)
      ∙ part_is_value s service bs (get_or starts there.index 0) 1 2 there.segment there.there

  -- whatever carries it is that segment
  only : (k : ℕ) (x : Component) → Carries g m hs k x → (suc (0 + there.index) ≡ k) × (value ≡ x)
  only k x c =
      let o = one_of g.carrier 0 m hs (suc (0 + there.index)) k there.segment c.segment there.is c.there in
      (o.0, ap (λ (y : Segment). value_at y 1 2) o.1 ∙ c.same)

  opens : (p : ℕ) (h : p < g.identifiers) (es : List Entry) → All (OpenLowest book good p h hs ps cs) es → All (OpensLowest cs n v) es
  opens p h = all_map (OpenLowest book good p h hs ps cs) (OpensLowest cs n v) (λ e a. a.1)

  rows : (p : ℕ) → p < g.identifiers → (rows_verdict n (scanned_row g p cs hs) ≡ v) ↔ RowsSay cs n (entries_of g p hs ps) v
  rows p h =
      subst (λ (f : Outcome). (rows_verdict n f ≡ v) ↔ RowsSay cs n (entries_of g p hs ps) v) (sym (rows_on_tree s service bs book good w t p h cs))
      (rows_say cs n v (entries_of g p hs ps) (looks g p hs ps) (opens p h (entries_of g p hs ps) (open_lowest book good p h hs ps cs)))

  abbrev identifier_of : Option ℕ → ℕ
  identifier_of (Some p) = p
  identifier_of None = 0

  rules_tell : (i : Option ℕ) → identified g (identifier_in s g bs starts hs) ≡ i → (identifier_verdict g cs n hs i ≡ v) ↔ RulesSay s bs book cs room m hs ps v
  rules_tell None e = (λ h. (suc (0 + there.index), value, carries, inl (none, sym h ∙ ap (answer 13) carrier_at)), from)
    where
      none : (p : ℕ) → InBook g value p → ⊥
      none p i = identified_foreign g (identifier_in s g bs starts hs) e p i.0 (raw ∙ in_book_written book good s service value p i)

      from : RulesSay s bs book cs room m hs ps v → answer 13 (carrier_place g hs) ≡ v
      from (k, x, c, inl (o, h)) = ap (answer 13) (carrier_at ∙ (only k x c).0) ∙ sym h
      from (k, x, c, inr (p, i, h)) = absurd (none p (subst (λ (y : Component). InBook g y p) (sym (only k x c).1) i))
  rules_tell (Some p) e = (λ h. (suc (0 + there.index), value, carries, inr (p, there-in, (rows p known.0).0 h)), from)
    where
      known : (p < g.identifiers) × (identifier_in s g bs starts hs ≡ identifier_value g p)
      known = identified_known g (identifier_in s g bs starts hs) p e

      there-in : InBook g value p
      there-in = written_in_book book good s service value p known.0 (sym raw ∙ known.1)

      from : RulesSay s bs book cs room m hs ps v → rows_verdict n (scanned_row g p cs hs) ≡ v
      from (k, x, c, inl (o, h)) = absurd (o p (subst (λ (y : Component). InBook g y p) (only k x c).1 there-in))
      from (k, x, c, inr (q, i, h)) =
          let j = subst (λ (y : Component). InBook g y q) (sym (only k x c).1) i in
          let same : p ≡ q = ap identifier_of (sym e ∙ known_identified book good q (identifier_in s g bs starts hs) j.0 (raw ∙ in_book_written book good s service value q j)) in
          (rows p known.0).1 (subst (λ (z : ℕ). RowsSay cs n (entries_of g z hs ps) v) (sym same) h)

  -- ---- number 12

  abbrev Rest : Verdict
  Rest = identifier_verdict g cs n hs (identified g (identifier_in s g bs starts hs))

  rest_tells : (Rest ≡ v) ↔ RulesSay s bs book cs room m hs ps v
  rest_tells = rules_tell (identified g (identifier_in s g bs starts hs)) refl

  fields_tell : (f : Result ⊤ FirstFault) → FieldsSaid s service mark book good 0 m hs f → (fields_verdict f Rest ≡ v) ↔ PlacedSays s bs book cs room m hs ps v
  fields_tell f (faulty p l e c i) = (λ h. inl (place p l e c, i, sym h), from)
    where
      from : PlacedSays s bs book cs room m hs ps v → verdict 12 (place p l e c) 0 ≡ v
      from (inl (q, j, h)) = ap (λ (x : Place). verdict 12 x 0) (one_field_fault s g 0 m hs (place p l e c) q i j) ∙ sym h
      from (inr (none, x)) = absurd (fault_or_none s g 0 m hs (place p l e c) i none)
  fields_tell f (clean none) = (λ h. inr (none, rest_tells.0 h), from)
    where
      from : PlacedSays s bs book cs room m hs ps v → Rest ≡ v
      from (inl (q, j, h)) = absurd (fault_or_none s g 0 m hs q j none)
      from (inr (i, x)) = rest_tells.1 x

  -- ---- the law

  placed_is : placed_stage s bs book cs n ≡ placed_verdict s g bs cs n starts hs
  unfolding placed_stage
  placed_is = ap₂ (placed_verdict s g bs cs n) (found_starts s service bs w) (found_homes s service bs w book good)

  pub placed_tells : (placed_stage s bs book cs n ≡ v) ↔ PlacedSays s bs book cs room m hs ps v
  placed_tells =
      subst (λ (x : Verdict). (x ≡ v) ↔ PlacedSays s bs book cs room m hs ps v) (sym placed_is)
      (fields_tell (first_fault s g bs 0 starts hs) (fields_said s service mark book good bs w (placed_have (plan_in book) hs t)))
