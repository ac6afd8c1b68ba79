-- The core of demand 3: what is said over all fillings is what each filling gets. A finding other than Unsettled is given exactly
-- when every filling gets it, Unsettled exactly when two get different ones, and a list that knows more keeps every other finding.
-- For up to the first row that some filling breaks all are kept; if every filling breaks it, all stop there with the same place
-- and line; if only some do, one stops there and another does not, and no later row has that line and place (law row_key).
use Prim.Native.Nat.{ℕ, zero, suc}
use native.Mathlib.Omega.{arith}
use mathlib.Core.Path.{◌≡◌, refl, sym, ap, ◌∙◌, subst}
use mathlib.Core.Logic.{◌↔◌}
use mathlib.Core.List.{List, [], ◌∷◌}
use mathlib.Core.Bool.{Bool, true, false, not, cond}
use lib.ListN.{get_or}
use borrow.Author.Tests.{ne_eqb, not-true, not-false}
use Rattle.reading.specs.meaning.Service.{All}
use Rattle.guide.specs.meaning.Guide.{Guide, guide_of}
use Rattle.book.specs.meaning.GoodBook.{GoodBook}
use Rattle.rules.specs.meaning.Conditions.{Assignment, is_unknown, told, Filling, Fills, Learns}
use Rattle.rules.specs.method.Scanning.{first_unknown}
use Rattle.rules_laws.specs.laws.FirstFound.{some, every, found_under, reported, found_among, first_row}
use Rattle.rules.specs.meaning.Entries.{Entry, entries_of}
use Rattle.rules.specs.method.Scanning.{Outcome}
use Rattle.rules.specs.declared.finding.Finding.TheVariants.{Broken, Unsettled}
use Rattle.std.specs.Prelude.{Ok, Err}
use Rattle.rules_laws.proofs.Fillings.{Witness, some_is, some_not, some_known, filled_filling, filled_known, filling_list, fill_fills, fill_told, learns_fills}
use Rattle.rules_laws.proofs.Keys.{Looks, looks, Apart, Keyed, row_key}

abbrev pub IsUnsettled : Outcome → Type 0
IsUnsettled (Ok u) = ⊥
IsUnsettled (Err (Broken k l)) = ⊥
IsUnsettled (Err (Unsettled k l c)) = Unit {0}

-- ---- one row over all fillings

pub data Over (cs : List ℕ) (e : Entry) : Type 0 where
  never : some cs e.conditions e.is_broken_by ≡ false → ((a : Assignment) → Filling cs a → e.is_broken_by a ≡ false) → Over cs e
  always : some cs e.conditions e.is_broken_by ≡ true → every cs e.conditions e.is_broken_by ≡ true
      → ((a : Assignment) → Filling cs a → e.is_broken_by a ≡ true) → Over cs e
  sometimes : some cs e.conditions e.is_broken_by ≡ true → every cs e.conditions e.is_broken_by ≡ false
      → Witness cs e.is_broken_by true → Witness cs e.is_broken_by false → Over cs e

pub over : (cs : List ℕ) (e : Entry) → Looks e → Over cs e
over cs e l = go (some cs e.conditions e.is_broken_by) (some cs e.conditions (λ a. not (e.is_broken_by a))) refl refl
  where
    flip : Witness cs (λ a. not (e.is_broken_by a)) true → Witness cs e.is_broken_by false
    flip w = record { a = w.a; filling = w.filling; gives = not-true (e.is_broken_by w.a) w.gives }

    go : (v w : Bool) → some cs e.conditions e.is_broken_by ≡ v → some cs e.conditions (λ a. not (e.is_broken_by a)) ≡ w → Over cs e
    go false w p q = never p (λ a h. some_not cs e.conditions e.is_broken_by a h (λ x y _ _ r. l x y r) p)
    go true false p q =
        always p (ap not q)
        (λ a h. not-false (e.is_broken_by a) (some_not cs e.conditions (λ b. not (e.is_broken_by b)) a h (λ x y _ _ r. ap not (l x y r)) q))
    go true true p q =
        sometimes p (ap not q) (some_is cs e.conditions e.is_broken_by p) (flip (some_is cs e.conditions (λ a. not (e.is_broken_by a)) q))

-- ---- under one assignment

under_kept : (a : Assignment) (e : Entry) (es : List Entry) → e.is_broken_by a ≡ false → found_under a (e ∷ es) ≡ found_under a es
unfolding found_under
under_kept a e es h = rw h

under_broken : (a : Assignment) (e : Entry) (es : List Entry) → e.is_broken_by a ≡ true → found_under a (e ∷ es) ≡ Err (Broken e.place e.line)
unfolding found_under
under_broken a e es h = rw h

kept_broken : (k l : ℕ) → ◌≡◌ {A = Outcome} (Ok tt) (Err (Broken k l)) → ⊥
kept_broken k l q = let z : ◌≡◌ {A = ℕ} 0 1 = cc in omega arith

same_place : (k l m n : ℕ) → ◌≡◌ {A = Outcome} (Err (Broken k l)) (Err (Broken m n)) → k ≡ m
same_place k l m n q = cc

same_line : (k l m n : ℕ) → ◌≡◌ {A = Outcome} (Err (Broken k l)) (Err (Broken m n)) → l ≡ n
same_line k l m n q = cc

-- no later row is reported as this one
under_apart : (a : Assignment) (e : Entry) (es : List Entry) → Apart e es → found_under a es ≡ Err (Broken e.place e.line) → ⊥
unfolding found_under
under_apart a e [] h q = kept_broken _ _ q
under_apart a e (d ∷ ds) h q = go (d.is_broken_by a) q (under_apart a e ds h.1)
  where
    go : (t : Bool) → cond t (Err (Broken d.place d.line)) (found_under a ds) ≡ Err (Broken e.place e.line)
        → (found_under a ds ≡ Err (Broken e.place e.line) → ⊥) → ⊥
    go true r x = h.0 (sym (same_line _ _ _ _ r)) (sym (same_place _ _ _ _ r))
    go false r x = x r

-- ---- what a finding says of the fillings

data Said (cs : List ℕ) (es : List Entry) (v : Outcome) : Type 0 where
  sure : (IsUnsettled v → ⊥) → ((a : Assignment) → Filling cs a → found_under a es ≡ v) → Said cs es v
  unsure : IsUnsettled v → (a b : Assignment) → Filling cs a → Filling cs b → (found_under a es ≡ found_under b es → ⊥) → Said cs es v

on_kept : (cs : List ℕ) (e : Entry) (es : List Entry) (v : Outcome) → ((a : Assignment) → Filling cs a → e.is_broken_by a ≡ false) → Said cs es v → Said cs (e ∷ es) v
on_kept cs e es v h (sure x y) = sure x (λ a p. under_kept a e es (h a p) ∙ y a p)
on_kept cs e es v h (unsure x a b p q y) = unsure x a b p q (λ r. y (sym (under_kept a e es (h a p)) ∙ r ∙ under_kept b e es (h b q)))

on_same : (cs : List ℕ) (es : List Entry) {v w : Outcome} → v ≡ w → Said cs es v → Said cs es w
on_same cs es q s = subst (Said cs es) q s

said : (cs : List ℕ) (es : List Entry) → All Looks es → Keyed es → Said cs es (found_among cs es)
unfolding found_among found_under
said cs [] l k = sure (λ x. x) (λ a p. refl)
said cs (e ∷ es) l k = go (over cs e l.0) (said cs es l.1 k.1)
  where
    go : Over cs e → Said cs es (found_among cs es) → Said cs (e ∷ es) (cond (some cs e.conditions e.is_broken_by) (reported cs e) (found_among cs es))
    go (never s h) j = on_same cs (e ∷ es) (rw s) (on_kept cs e es (found_among cs es) h j)
    go (always s t h) j = on_same cs (e ∷ es) {v = Err (Broken e.place e.line)} (rw (s, t)) (sure (λ x. x) (λ a p. under_broken a e es (h a p)))
    go (sometimes s t x y) j =
        on_same cs (e ∷ es) {v = Err (Unsettled e.place e.line (first_unknown cs e.conditions))} (rw (s, t))
        (unsure tt x.a y.a x.filling y.filling
        (λ r. under_apart y.a e es k.0 (sym (under_kept y.a e es y.gives) ∙ sym r ∙ under_broken x.a e es x.gives)))

-- ---- with nothing unknown

known_found : (cs : List ℕ) (es : List Entry) → ((k : ℕ) → is_unknown cs k ≡ false) → found_among cs es ≡ found_under (told cs) es
unfolding found_among found_under
known_found cs [] h = refl
known_found cs (e ∷ es) h =
    rw (some_known cs e.conditions e.is_broken_by h, some_known cs e.conditions (λ a. not (e.is_broken_by a)) h) (go (e.is_broken_by (told cs)) (known_found cs es h))
  where
    go : (v : Bool) → found_among cs es ≡ found_under (told cs) es
        → cond v (cond (not (not v)) (Err (Broken e.place e.line)) (Err (Unsettled e.place e.line (first_unknown cs e.conditions)))) (found_among cs es)
        ≡ cond v (Err (Broken e.place e.line)) (found_under (told cs) es)
    go true x = refl
    go false x = x

filled_found : (cs fs : List ℕ) (es : List Entry) → Fills cs fs → found_among fs es ≡ found_under (told fs) es
filled_found cs fs es h = known_found fs es (filled_known cs fs h)

at_filling : (cs : List ℕ) (es : List Entry) (a : Assignment) → Filling cs a → found_among (filling_list cs a) es ≡ found_under a es
at_filling cs es a p = filled_found cs (filling_list cs a) es (fill_fills _ cs) ∙ ap (λ (b : Assignment). found_under b es) (fill_told cs a p)

-- ---- over any entries that look at their own conditions and are told apart by line and place

module _ (cs : List ℕ) (es : List Entry) (l : All Looks es) (k : Keyed es) where
  sure_each : (v : Outcome) → (IsUnsettled v → ⊥) → found_among cs es ≡ v → (fs : List ℕ) → Fills cs fs → found_among fs es ≡ v
  sure_each v n e fs h = go (on_same cs es e (said cs es l k))
    where
      go : Said cs es v → found_among fs es ≡ v
      go (sure x y) = filled_found cs fs es h ∙ y (told fs) (filled_filling cs fs h)
      go (unsure x a b p q y) = absurd (n x)

  each_sure : (v : Outcome) → ((fs : List ℕ) → Fills cs fs → found_among fs es ≡ v) → found_among cs es ≡ v
  each_sure v h = go (said cs es l k)
    where
      at : (a : Assignment) → Filling cs a → found_under a es ≡ v
      at a p = sym (at_filling cs es a p) ∙ h (filling_list cs a) (fill_fills _ cs)

      go : Said cs es (found_among cs es) → found_among cs es ≡ v
      go (sure x y) = sym (y (told cs) (λ j q. refl)) ∙ at (told cs) (λ j q. refl)
      go (unsure x a b p q y) = absurd (y (at a p ∙ sym (at b q)))

  -- two fillings that get different findings
  abbrev Differ : Type 0
  Differ = (fs : List ℕ) × (gs : List ℕ) × Fills cs fs × Fills cs gs × (found_among fs es ≡ found_among gs es → ⊥)

  unsettled_differ : IsUnsettled (found_among cs es) → Differ
  unsettled_differ s = go (said cs es l k)
    where
      go : Said cs es (found_among cs es) → Differ
      go (sure x y) = absurd (x s)
      go (unsure x a b p q y) =
          (filling_list cs a, filling_list cs b, fill_fills _ cs, fill_fills _ cs, λ r. y (sym (at_filling cs es a p) ∙ r ∙ at_filling cs es b q))

  differ_unsettled : Differ → IsUnsettled (found_among cs es)
  differ_unsettled d = go (said cs es l k)
    where
      go : Said cs es (found_among cs es) → IsUnsettled (found_among cs es)
      go (sure x y) =
          absurd (d.4 (sure_each (found_among cs es) x refl d.0 d.2 ∙ sym (sure_each (found_among cs es) x refl d.1 d.3)))
      go (unsure x a b p q y) = x

-- ---- the laws, for a good book, a Prüfidentifikator, and any homes and parents

-- every list has a filling
pub inhabited : (cs : List ℕ) → (fs : List ℕ) × Fills cs fs
inhabited cs = (filling_list cs (told cs), fill_fills _ cs)

module _ (book : List ℕ) (good : GoodBook book) (p : ℕ) (hs ps : List ℕ) where
  pub settled : (cs : List ℕ) (v : Outcome) → (IsUnsettled v → ⊥)
      → (first_row (guide_of book) p cs hs ps ≡ v) ↔ ((fs : List ℕ) → Fills cs fs → first_row (guide_of book) p fs hs ps ≡ v)
  settled cs v n = (
    sure_each cs (entries_of (guide_of book) p hs ps) (looks (guide_of book) p hs ps) (row_key book good p hs ps) v n,
    each_sure cs (entries_of (guide_of book) p hs ps) (looks (guide_of book) p hs ps) (row_key book good p hs ps) v,
  )

  pub unsettled : (cs : List ℕ)
      → IsUnsettled (first_row (guide_of book) p cs hs ps)
      ↔ ((fs : List ℕ) × (gs : List ℕ) × Fills cs fs × Fills cs gs × (first_row (guide_of book) p fs hs ps ≡ first_row (guide_of book) p gs hs ps → ⊥))
  unsettled cs = (
    unsettled_differ cs (entries_of (guide_of book) p hs ps) (looks (guide_of book) p hs ps) (row_key book good p hs ps),
    differ_unsettled cs (entries_of (guide_of book) p hs ps) (looks (guide_of book) p hs ps) (row_key book good p hs ps),
  )

  pub later : (cs ds : List ℕ) → Learns cs ds → (IsUnsettled (first_row (guide_of book) p cs hs ps) → ⊥)
      → first_row (guide_of book) p ds hs ps ≡ first_row (guide_of book) p cs hs ps
  later cs ds h n =
      (settled ds (first_row (guide_of book) p cs hs ps) n).1 (λ fs f. (settled cs (first_row (guide_of book) p cs hs ps) n).0 refl fs (learns_fills cs ds fs h f))

-- with no byte 2 there is one filling, and the finding is the one under it; this holds of any book
pub known : (g : Guide) (p : ℕ) (hs ps cs : List ℕ) → ((j : ℕ) → get_or cs j 0 ≡ 2 → ⊥) → first_row g p cs hs ps ≡ found_under (told cs) (entries_of g p hs ps)
known g p hs ps cs h = known_found cs (entries_of g p hs ps) all
  where
    all : (k : ℕ) → is_unknown cs k ≡ false
    all zero = refl
    all (suc j) = ne_eqb (get_or cs j 0) 2 (h j)
