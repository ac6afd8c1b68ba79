-- The fields say what the table says: number 12 in terms of the abstract message.
use Prim.Native.Nat.{ℕ, zero, suc, ◌≤◌, ◌<◌}
use native.Mathlib.Omega.{arith}
use mathlib.Core.Path.{◌≡◌, refl, sym, ap, ◌∙◌, subst}
use mathlib.Core.List.{List, [], ◌∷◌, ◌++◌, map, append_assoc}
use mathlib.Core.Bool.{Bool, true, false, true≢false, false≢true}
use mathlib.Core.Logic.{inl, inr}
use lib.ListN.{length, length-append}
use Rattle.guide.specs.meaning.Guide.{Guide, guide_of}
use Rattle.book.specs.meaning.GoodBook.{GoodBook}
use Rattle.guide.specs.meaning.View.{line_of}
use Rattle.reading.specs.meaning.Service.{All, GoodService}
use Rattle.reading.specs.meaning.Message.{Segment, Message, ValidSegment, write_segments, render}
use Rattle.reading.specs.meaning.Component.{value_at}
use Rattle.reading.specs.meaning.WellFormed.{WellFormed}
use Rattle.reading.specs.declared.service.Service.{Service}
use Rattle.reading_laws.proofs.Cursors.{written_at}
use Rattle.placing.specs.meaning.Fitting.{home_of}
use Rattle.placing.specs.meaning.Answers.{HaveHomes}
use Rattle.reading.specs.meaning.Starts.{starts_in, starts_of}
use Rattle.placing_laws.proofs.Homes.{home_fits}
use Rattle.fields.specs.meaning.Number.{GoodMark}
use Rattle.fields.specs.meaning.Fields.{LeastFault, at_fault}
use Rattle.fields.specs.method.Testing.{fault_at, then_first, first_fault}
use Rattle.fields.specs.declared.fault.Fault.{Fault}
use Rattle.std.specs.Prelude.{⊤, Result, Ok, Err}
use Rattle.fields.specs.declared.passes.FirstFault.{FirstFault}
use Rattle.fields.specs.method.Testing.{first_at}
use Rattle.fields_laws.proofs.FieldFault.{field_fault}
use Rattle.fields_laws.proofs.Places.{one_fault}
use Rattle.framing.specs.meaning.Record.{place}
use Rattle.demands.specs.meaning.Table.{FieldFault, NoFieldFault}
use Rattle.framing.specs.declared.verdict.Place.{Place}

-- ---- one first fault at most

element_of : Result ⊤ Fault → ℕ
element_of (Err x) = x.element
element_of (Ok _) = 0

component_of : Result ⊤ Fault → ℕ
component_of (Err x) = x.component
component_of (Ok _) = 0

is_clean : Result ⊤ Fault → Bool
is_clean (Err _) = false
is_clean (Ok _) = true

module _ (s : Service) (g : Guide) where
  pub one_field_fault : (k : ℕ) (m : Message) (hs : List ℕ) (p q : Place) → FieldFault s g k m hs p → FieldFault s g k m hs q → p ≡ q
  unfolding element_of component_of is_clean
  one_field_fault k [] hs p q a b = absurd a
  one_field_fault k (x ∷ xs) [] p q a b = absurd a
  one_field_fault k (x ∷ xs) (l ∷ ls) p q (inl (e, c, i, h)) (inl (d, b, j, f)) =
      let z = one_fault s (value_at x) (line_of g l).fields (at_fault e c) (at_fault d b) i j in
      h ∙ ap (λ (r : Result ⊤ Fault). place (suc k) l (element_of r) (component_of r)) z ∙ sym f
  one_field_fault k (x ∷ xs) (l ∷ ls) p q (inl (e, c, i, h)) (inr (j, b)) = absurd (false≢true (ap is_clean (one_fault s (value_at x) (line_of g l).fields (at_fault e c) (Ok tt) i j)))
  one_field_fault k (x ∷ xs) (l ∷ ls) p q (inr (i, a)) (inl (d, b, j, f)) = absurd (true≢false (ap is_clean (one_fault s (value_at x) (line_of g l).fields (Ok tt) (at_fault d b) i j)))
  one_field_fault k (x ∷ xs) (l ∷ ls) p q (inr (i, a)) (inr (j, b)) = one_field_fault (suc k) xs ls p q a b

  pub fault_or_none : (k : ℕ) (m : Message) (hs : List ℕ) (p : Place) → FieldFault s g k m hs p → NoFieldFault s g m hs → ⊥
  unfolding is_clean
  fault_or_none k [] hs p a n = a
  fault_or_none k (x ∷ xs) [] p a n = a
  fault_or_none k (x ∷ xs) (l ∷ ls) p (inl (e, c, i, h)) (j, n) = false≢true (ap is_clean (one_fault s (value_at x) (line_of g l).fields (at_fault e c) (Ok tt) i j))
  fault_or_none k (x ∷ xs) (l ∷ ls) p (inr (i, a)) (j, n) = fault_or_none (suc k) xs ls p a n

-- ---- what is found

module _ (s : Service) (service : GoodService s) (mark : GoodMark s) (book : List ℕ) (good : GoodBook book) where
  abbrev g : Guide
  g = guide_of book

  pub data FieldsSaid (k : ℕ) (m : Message) (hs : List ℕ) : Result ⊤ FirstFault → Type 0 where
    faulty : (p l e c : ℕ) → FieldFault s g k m hs (place p l e c) → FieldsSaid k m hs (first_at p l e c)
    clean : NoFieldFault s g m hs → FieldsSaid k m hs (Ok tt)

  said_step : (k l : ℕ) (x : Segment) (xs : Message) (hs : List ℕ) (r : Result ⊤ Fault) (f : Result ⊤ FirstFault) → LeastFault s (line_of g l).fields (value_at x) r
      → FieldsSaid (suc k) xs hs f → FieldsSaid k (x ∷ xs) (l ∷ hs) (then_first k l r f)
  said_step k l x xs hs (Err y) f i b = faulty (suc k) l y.element y.component (inl (y.element, y.component, i, refl))
  said_step k l x xs hs (Ok _) f i (faulty p j e c b) = faulty p j e c (inr (i, b))
  said_step k l x xs hs (Ok _) f i (clean b) = clean (i, b)

  -- a home is a line of the book
  home_within : (x : Segment) → 0 < home_of g x → home_of g x ≤ g.lines
  home_within x h = go (home_of g x) refl h
    where
      go : (l : ℕ) → home_of g x ≡ l → 0 < l → l ≤ g.lines
      go zero e i = absurd (omega arith)
      go (suc l) e i = (home_fits book good x l e).0

  have_rest : (h : ℕ) (hs : List ℕ) → HaveHomes (h ∷ hs) → (0 < h) × HaveHomes hs
  have_rest h hs a = (a 0 (omega arith), λ j i. a (suc j) (omega arith))

  said_in : (m before : Message) (k : ℕ) → length before ≡ k → All ValidSegment m → HaveHomes (map (home_of g) m)
      → FieldsSaid k m (map (home_of g) m) (first_fault s g (render s (before ++ m)) k (starts_in s before m) (map (home_of g) m))
  unfolding first_fault starts_in
  said_in [] before k e v a = clean tt
  said_in (x ∷ xs) before k e v a =
      let rest = have_rest (home_of g x) (map (home_of g) xs) a in
      let later = said_in xs (before ++ (x ∷ [])) (suc k) (length-append before (x ∷ []) ∙ omega arith) v.1 rest.1 in
      let some = rest.0 in
      said_step k (home_of g x) x xs (map (home_of g) xs) (fault_at s g (render s (before ++ (x ∷ xs))) (length (render s before)) (home_of g x))
      (first_fault s g (render s (before ++ (x ∷ xs))) (suc k) (starts_in s (before ++ (x ∷ [])) xs) (map (home_of g) xs))
      (field_fault s service mark book good (home_of g x) (omega arith) (home_within x some) (render s (before ++ (x ∷ xs))) (length (render s before)) x (written_at s service before x xs v.0))
      (subst (λ (y : Message). FieldsSaid (suc k) xs (map (home_of g) xs) (first_fault s g (render s y) (suc k) (starts_in s (before ++ (x ∷ [])) xs) (map (home_of g) xs)))
      (append_assoc before (x ∷ []) xs) later)

  pub fields_said : (bs : List ℕ) (w : WellFormed s bs) → HaveHomes (map (home_of g) w.message)
      → FieldsSaid 0 w.message (map (home_of g) w.message) (first_fault s g bs 0 (starts_of s w.message) (map (home_of g) w.message))
  unfolding write_segments
  fields_said bs w a =
      subst (λ (xs : List ℕ). FieldsSaid 0 w.message (map (home_of g) w.message) (first_fault s g xs 0 (starts_of s w.message) (map (home_of g) w.message))) (sym w.same)
      (said_in w.message [] 0 refl w.valid.segments a)
