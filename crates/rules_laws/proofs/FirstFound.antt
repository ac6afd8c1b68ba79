-- What the first row is, in the words of fillings: nothing is found exactly if no filling breaks any row; Broken exactly if the first
-- row that some filling breaks has that place and line and every filling breaks it; Unsettled exactly if only some do.
-- 01, numbers 14 and 15. Each row looks at its own conditions only, so trying these meets every filling.
use Prim.Native.Nat.{ℕ}
use mathlib.Core.Path.{◌≡◌, refl, sym, ap, ◌∙◌, subst}
use mathlib.Core.Logic.{◌↔◌}
use mathlib.Core.List.{List, [], ◌∷◌, ◌++◌}
use mathlib.Core.Bool.{true, false, cond, true≢false}
use Rattle.reading.specs.meaning.Service.{All}
use Rattle.guide.specs.meaning.Guide.{Guide}
use Rattle.rules.specs.meaning.Conditions.{Assignment, told, Filling}
use Rattle.rules.specs.method.Scanning.{first_unknown}
use Rattle.rules_laws.specs.laws.FirstFound.{some, reported, found_among, first_row}
use Rattle.rules.specs.meaning.Entries.{Entry, entries_of, SomeBreaks, EveryBreaks}
use Rattle.rules.specs.method.Scanning.{Outcome}
use Rattle.rules.specs.declared.finding.Finding.TheVariants.{Broken, Unsettled}
use Rattle.std.specs.Prelude.{Ok, Err}
use Rattle.rules_laws.proofs.Keys.{Looks, looks}
use Rattle.rules_laws.proofs.SureOrOpen.{Over, never, always, sometimes, over}

-- ---- a row over all fillings

abbrev pub KeptIn : List ℕ → Entry → Type 0
KeptIn cs e = (a : Assignment) → Filling cs a → e.is_broken_by a ≡ false

abbrev pub BrokenInSome : List ℕ → Entry → Type 0
BrokenInSome cs e = SomeBreaks cs e × ((a : Assignment) × Filling cs a × (e.is_broken_by a ≡ false))

-- the first row that is not kept in all fillings, and what holds of it
pub record First (cs : List ℕ) (es : List Entry) (P : Entry → Type 0) : Type 0 where
  pub before : List Entry
  pub row : Entry
  pub behind : List Entry
  pub all : es ≡ before ++ (row ∷ behind)
  pub kept : All (KeptIn cs) before
  pub is : P row

abbrev pub Reported : ℕ → ℕ → Entry → Type 0
Reported k l e = (e.place ≡ k) × (e.line ≡ l)

abbrev pub ByEvery : List ℕ → ℕ → ℕ → Entry → Type 0
ByEvery cs k l e = Reported k l e × EveryBreaks cs e

abbrev pub BySome : List ℕ → ℕ → ℕ → ℕ → Entry → Type 0
BySome cs k l c e = Reported k l e × BrokenInSome cs e × (first_unknown cs e.conditions ≡ c)

one_more_lem : (cs : List ℕ) (e : Entry) (es : List Entry) (P : Entry → Type 0) → KeptIn cs e → First cs es P → First cs (e ∷ es) P
one_more_lem cs e es P h f =
    record {
      before = e ∷ f.before;
      row = f.row;
      behind = f.behind;
      all = ap (λ (ds : List Entry). e ∷ ds) f.all;
      kept = (h, f.kept);
      is = f.is;
    }

at_once : (cs : List ℕ) (e : Entry) (es : List Entry) (P : Entry → Type 0) → P e → First cs (e ∷ es) P
at_once cs e es P h = record { before = []; row = e; behind = es; all = refl; kept = tt; is = h }

-- ---- what each finding says

abbrev Says : List ℕ → List Entry → Outcome → Type 0
Says cs es (Ok u) = All (KeptIn cs) es
Says cs es (Err (Broken k l)) = First cs es (ByEvery cs k l)
Says cs es (Err (Unsettled k l c)) = First cs es (BySome cs k l c)

say_more : (cs : List ℕ) (e : Entry) (es : List Entry) (v : Outcome) → KeptIn cs e → Says cs es v → Says cs (e ∷ es) v
say_more cs e es (Ok u) h s = (h, s)
say_more cs e es (Err (Broken k l)) h s = one_more_lem cs e es (ByEvery cs k l) h s
say_more cs e es (Err (Unsettled k l c)) h s = one_more_lem cs e es (BySome cs k l c) h s

says : (cs : List ℕ) (es : List Entry) → All Looks es → Says cs es (found_among cs es)
unfolding found_among
says cs [] l = tt
says cs (e ∷ es) l = go (over cs e l.0) (says cs es l.1)
  where
    go : Over cs e → Says cs es (found_among cs es) → Says cs (e ∷ es) (cond (some cs e.conditions e.is_broken_by) (reported cs e) (found_among cs es))
    go (never s h) r = rw s (say_more cs e es (found_among cs es) h r)
    go (always s t h) r = rw (s, t) (at_once cs e es (ByEvery cs e.place e.line) ((refl, refl), h))
    go (sometimes s t x y) r =
        rw (s, t) (at_once cs e es (BySome cs e.place e.line (first_unknown cs e.conditions))
        ((refl, refl), (record { filling = x.a; fills = x.filling; breaks = x.gives }, (y.a, y.filling, y.gives)), refl))

-- ---- and what says it

-- what is told is one of the fillings
some_kept : (cs : List ℕ) (e : Entry) → Looks e → KeptIn cs e → some cs e.conditions e.is_broken_by ≡ false
some_kept cs e l h = go (over cs e l)
  where
    go : Over cs e → some cs e.conditions e.is_broken_by ≡ false
    go (never s k) = s
    go (always s t k) = absurd (true≢false (sym (k (told cs) (λ _ _. refl)) ∙ h (told cs) (λ _ _. refl)))
    go (sometimes s t x y) = absurd (true≢false (sym x.gives ∙ h x.a x.filling))

every_broken : (cs : List ℕ) (e : Entry) → Looks e → EveryBreaks cs e → reported cs e ≡ Err (Broken e.place e.line)
every_broken cs e l h = go (over cs e l)
  where
    go : Over cs e → reported cs e ≡ Err (Broken e.place e.line)
    go (never s k) = absurd (true≢false (sym (h (told cs) (λ _ _. refl)) ∙ k (told cs) (λ _ _. refl)))
    go (always s t k) = rw t
    go (sometimes s t x y) = absurd (true≢false (sym (h y.a y.filling) ∙ y.gives))

some_broken : (cs : List ℕ) (e : Entry) → Looks e → (a : Assignment) → Filling cs a → e.is_broken_by a ≡ true → some cs e.conditions e.is_broken_by ≡ true
some_broken cs e l a f q = go (over cs e l)
  where
    go : Over cs e → some cs e.conditions e.is_broken_by ≡ true
    go (never s k) = absurd (true≢false (sym q ∙ k a f))
    go (always s t k) = s
    go (sometimes s t x y) = s

some_open : (cs : List ℕ) (e : Entry) → Looks e → BrokenInSome cs e → reported cs e ≡ Err (Unsettled e.place e.line (first_unknown cs e.conditions))
some_open cs e l h = go (over cs e l)
  where
    go : Over cs e → reported cs e ≡ Err (Unsettled e.place e.line (first_unknown cs e.conditions))
    go (never s k) = absurd (true≢false (sym h.0.breaks ∙ k h.0.filling h.0.fills))
    go (always s t k) = absurd (true≢false (sym (k h.1.0 h.1.1) ∙ h.1.2))
    go (sometimes s t x y) = rw t

all_kept : (cs : List ℕ) (es : List Entry) → All Looks es → All (KeptIn cs) es → found_among cs es ≡ Ok tt
unfolding found_among
all_kept cs [] l h = refl
all_kept cs (e ∷ es) l h = rw (some_kept cs e l.0 h.0) (all_kept cs es l.1 h.1)

first_stops : (cs : List ℕ) (before : List Entry) (e : Entry) (behind : List Entry) → All Looks (before ++ (e ∷ behind)) → All (KeptIn cs) before
    → some cs e.conditions e.is_broken_by ≡ true → found_among cs (before ++ (e ∷ behind)) ≡ reported cs e
unfolding found_among
first_stops cs [] e behind l h s = rw s
first_stops cs (d ∷ ds) e behind l h s = rw (some_kept cs d l.0 h.0) (first_stops cs ds e behind l.1 h.1 s)

first_looks : (before : List Entry) (e : Entry) (behind : List Entry) → All Looks (before ++ (e ∷ behind)) → Looks e
first_looks [] e behind l = l.0
first_looks (d ∷ ds) e behind l = first_looks ds e behind l.1

module _ (cs : List ℕ) (es : List Entry) (l : All Looks es) where
  every_found : (k m : ℕ) → First cs es (ByEvery cs k m) → found_among cs es ≡ Err (Broken k m)
  every_found k m f =
      let n : All Looks (f.before ++ (f.row ∷ f.behind)) = subst (All Looks) f.all l in
      let o = first_looks f.before f.row f.behind n in
      ap (found_among cs) f.all
      ∙ first_stops cs f.before f.row f.behind n f.kept
      (some_broken cs f.row o (told cs) (λ _ _. refl) (f.is.1 (told cs) (λ _ _. refl)))
      ∙ every_broken cs f.row o f.is.1 ∙ (λ i. Err (Broken (f.is.0.0 i) (f.is.0.1 i)))

  some_found : (k m c : ℕ) → First cs es (BySome cs k m c) → found_among cs es ≡ Err (Unsettled k m c)
  some_found k m c f =
      let n : All Looks (f.before ++ (f.row ∷ f.behind)) = subst (All Looks) f.all l in
      let o = first_looks f.before f.row f.behind n in
      let b = f.is.1.0 in
      ap (found_among cs) f.all
      ∙ first_stops cs f.before f.row f.behind n f.kept (some_broken cs f.row o b.filling b.fills b.breaks)
      ∙ some_open cs f.row o f.is.1 ∙ (λ i. Err (Unsettled (f.is.0.0 i) (f.is.0.1 i) (f.is.2 i)))

  said_of : (v : Outcome) → found_among cs es ≡ v → Says cs es v
  said_of v e = subst (Says cs es) e (says cs es l)

-- ---- the laws, for any book, homes and parents

module _ (g : Guide) (p : ℕ) (hs ps cs : List ℕ) where
  -- number 0
  pub first_kept : (first_row g p cs hs ps ≡ Ok tt) ↔ All (KeptIn cs) (entries_of g p hs ps)
  first_kept = (said_of cs (entries_of g p hs ps) (looks g p hs ps) (Ok tt), all_kept cs (entries_of g p hs ps) (looks g p hs ps))

  -- number 14
  pub first_broken : (k l : ℕ) → (first_row g p cs hs ps ≡ Err (Broken k l)) ↔ First cs (entries_of g p hs ps) (ByEvery cs k l)
  first_broken k l = (said_of cs (entries_of g p hs ps) (looks g p hs ps) (Err (Broken k l)), every_found cs (entries_of g p hs ps) (looks g p hs ps) k l)

  -- number 15
  pub first_unsettled : (k l c : ℕ) → (first_row g p cs hs ps ≡ Err (Unsettled k l c)) ↔ First cs (entries_of g p hs ps) (BySome cs k l c)
  first_unsettled k l c =
      (said_of cs (entries_of g p hs ps) (looks g p hs ps) (Err (Unsettled k l c)), some_found cs (entries_of g p hs ps) (looks g p hs ps) k l c)
