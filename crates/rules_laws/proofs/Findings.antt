-- What a finding says of the rows: none that none is broken; Broken, under one assignment, that the first that it breaks has that
-- place and line; Unsettled names the lowest unknown condition of its row. The conditions of a row rise, so the first that is
-- unknown is the lowest; and where none is unknown all fillings agree.
use Prim.Native.Nat.{ℕ, ◌<◌, ◌≤◌}
use native.Mathlib.Omega.{arith}
use mathlib.Core.Path.{◌≡◌, refl, sym, ap, ◌∙◌, subst}
use mathlib.Core.Logic.{◌⊎◌, inl, inr, ◌↔◌}
use mathlib.Core.List.{List, [], ◌∷◌, ◌++◌, map}
use mathlib.Core.Bool.{Bool, true, false, not, cond, true≢false, false≢true}
use Rattle.reading.specs.meaning.Service.{All}
use Rattle.guide.specs.meaning.Guide.{guide_of}
use Rattle.book.specs.meaning.GoodBook.{GoodBook}
use Rattle.guide.specs.meaning.View.{row_of, in_use}
use Rattle.book_laws.proofs.ViewedRows.{NumbersRise}
use Rattle.rules.specs.meaning.Conditions.{Assignment, is_unknown, told}
use Rattle.rules.specs.method.Scanning.{Outcome, first_unknown}
use Rattle.rules_laws.specs.laws.FirstFound.{some, every, found_under, found_among, first_row}
use Rattle.rules.specs.meaning.Rows.{condition_number, conditions_of}
use Rattle.rules.specs.meaning.Entries.{Entry, entry_for, entries_of}
use Rattle.rules.specs.declared.finding.Finding.TheVariants.{Broken, Unsettled}
use Rattle.std.specs.Prelude.{Ok, Err}
use Rattle.rules_laws.proofs.Keys.{In, all_entries, all_of}
use Rattle.rules_laws.proofs.Exact.{row_rises}

-- ---- under one assignment

broken_kept : (k l : ℕ) → ◌≡◌ {A = Outcome} (Err (Broken k l)) (Ok tt) → ⊥
broken_kept k l q = let z : ◌≡◌ {A = ℕ} 0 1 = cc in omega arith

unsettled_kept : (k l c : ℕ) → ◌≡◌ {A = Outcome} (Err (Unsettled k l c)) (Ok tt) → ⊥
unsettled_kept k l c q = let z : ◌≡◌ {A = ℕ} 0 1 = cc in omega arith

broken_unsettled : (k l m n c : ℕ) → ◌≡◌ {A = Outcome} (Err (Broken k l)) (Err (Unsettled m n c)) → ⊥
broken_unsettled k l m n c q = let z : ◌≡◌ {A = ℕ} 0 1 = cc in omega arith

same_place : (k l m n : ℕ) → ◌≡◌ {A = Outcome} (Err (Broken k l)) (Err (Broken m n)) → (k ≡ m) × (l ≡ n)
same_place k l m n q = (cc, cc)

-- an assignment keeps a row
abbrev pub KeptBy : Assignment → Entry → Type 0
KeptBy a e = e.is_broken_by a ≡ false

pub kept_all : (a : Assignment) (es : List Entry) → (found_under a es ≡ Ok tt) ↔ All (KeptBy a) es
unfolding found_under
kept_all a [] = (λ _. tt, λ _. refl)
kept_all a (e ∷ es) = go (e.is_broken_by a) refl (kept_all a es)
  where
    go : (t : Bool) → e.is_broken_by a ≡ t → (found_under a es ≡ Ok tt) ↔ All (KeptBy a) es
        → (cond (e.is_broken_by a) (Err (Broken e.place e.line)) (found_under a es) ≡ Ok tt) ↔ (KeptBy a e × All (KeptBy a) es)
    go true q r = (λ x. absurd (broken_kept _ _ (rw q at x)), λ x. absurd (true≢false (sym q ∙ x.0)))
    go false q r = (λ x. (q, r.0 (rw q at x)), λ x. rw q (r.1 x.1))

-- the first row that an assignment breaks, and those before it
pub record FirstBroken (a : Assignment) (es : List Entry) (place line : ℕ) : Type 0 where
  pub before : List Entry
  pub row : Entry
  pub behind : List Entry
  pub all : es ≡ before ++ (row ∷ behind)
  pub kept : All (KeptBy a) before
  pub broken : row.is_broken_by a ≡ true
  pub place_is : row.place ≡ place
  pub line_is : row.line ≡ line

one_more_lem : (a : Assignment) (e : Entry) (es : List Entry) (k l : ℕ) → KeptBy a e → FirstBroken a es k l → FirstBroken a (e ∷ es) k l
one_more_lem a e es k l h f =
    record {
      before = e ∷ f.before;
      row = f.row;
      behind = f.behind;
      all = ap (λ (ds : List Entry). e ∷ ds) f.all;
      kept = (h, f.kept);
      broken = f.broken;
      place_is = f.place_is;
      line_is = f.line_is;
    }

under_first : (a : Assignment) (es : List Entry) (k l : ℕ) → found_under a es ≡ Err (Broken k l) → FirstBroken a es k l
unfolding found_under
under_first a [] k l q = absurd (broken_kept k l (sym q))
under_first a (e ∷ es) k l q = go (e.is_broken_by a) refl q (under_first a es k l)
  where
    go : (t : Bool) → e.is_broken_by a ≡ t → cond t (Err (Broken e.place e.line)) (found_under a es) ≡ Err (Broken k l) → (found_under a es ≡ Err (Broken k l) → FirstBroken a es k l)
        → FirstBroken a (e ∷ es) k l
    go true x y r =
        record {
          before = [];
          row = e;
          behind = es;
          all = refl;
          kept = tt;
          broken = x;
          place_is = (same_place _ _ _ _ y).0;
          line_is = (same_place _ _ _ _ y).1;
        }
    go false x y r = one_more_lem a e es k l x (r y)

first_under : (a : Assignment) (before : List Entry) (e : Entry) (behind : List Entry) → All (KeptBy a) before → e.is_broken_by a ≡ true
    → found_under a (before ++ (e ∷ behind)) ≡ Err (Broken e.place e.line)
unfolding found_under
first_under a [] e behind h q = rw q
first_under a (d ∷ ds) e behind h q = rw h.0 (first_under a ds e behind h.1 q)

pub broken_first : (a : Assignment) (es : List Entry) (k l : ℕ) → (found_under a es ≡ Err (Broken k l)) ↔ FirstBroken a es k l
broken_first a es k l = (
  under_first a es k l,
  λ f. ap (found_under a) f.all ∙ first_under a f.before f.row f.behind f.kept f.broken ∙ (λ i. Err (Broken (f.place_is i) (f.line_is i))),
)

-- one assignment leaves nothing open
pub never_unsettled : (a : Assignment) (es : List Entry) (k l c : ℕ) → found_under a es ≡ Err (Unsettled k l c) → ⊥
unfolding found_under
never_unsettled a [] k l c q = unsettled_kept k l c (sym q)
never_unsettled a (e ∷ es) k l c q = go (e.is_broken_by a) q (never_unsettled a es k l c)
  where
    go : (t : Bool) → cond t (Err (Broken e.place e.line)) (found_under a es) ≡ Err (Unsettled k l c) → (found_under a es ≡ Err (Unsettled k l c) → ⊥) → ⊥
    go true x r = broken_unsettled _ _ _ _ _ x
    go false x r = r x

-- ---- over all fillings: the lowest unknown condition

abbrev pub Names : ℕ → List ℕ → Type 0
Names j [] = ⊥
Names j (k ∷ ks) = (j ≡ k) ⊎ Names j ks

pub record Lowest (cs ks : List ℕ) (k : ℕ) : Type 0 where
  pub named : Names k ks
  pub unknown : is_unknown cs k ≡ true
  pub least : (j : ℕ) → Names j ks → is_unknown cs j ≡ true → k ≤ j

-- there is an unknown one, or there is nothing to fill
data Fillable (cs ks : List ℕ) (k : ℕ) : Type 0 where
  one : Names k ks → is_unknown cs k ≡ true → Fillable cs ks k
  nothing : ((test : Assignment → Bool) → some cs ks test ≡ test (told cs)) → Fillable cs ks k

fillable : (cs ks : List ℕ) → Fillable cs ks (first_unknown cs ks)
unfolding first_unknown some
fillable cs [] = nothing (λ f. refl)
fillable cs (k ∷ ks) = go (is_unknown cs k) refl (fillable cs ks)
  where
    go : (t : Bool) → is_unknown cs k ≡ t → Fillable cs ks (first_unknown cs ks) → Fillable cs (k ∷ ks) (cond (is_unknown cs k) k (first_unknown cs ks))
    go true u x = rw u (one (inl refl) u)
    go false u (one x y) = rw u (one (inr x) y)
    go false u (nothing x) = rw u (nothing (λ f. rw u (x f)))

above : (m most j : ℕ) (xs : List ℕ) → NumbersRise m most xs → Names j (map condition_number xs) → m < j
above m most j [] r i = absurd i
above m most j (x ∷ xs) r (inl e) = let q = r.0 in omega arith
above m most j (x ∷ xs) r (inr i) = let q = above (condition_number x) most j xs r.2 i in let p = r.0 in omega arith

first_least : (cs xs : List ℕ) (m most j : ℕ) → NumbersRise m most xs → Names j (map condition_number xs) → is_unknown cs j ≡ true
    → first_unknown cs (map condition_number xs) ≤ j
unfolding first_unknown
first_least cs [] m most j r i u = absurd i
first_least cs (x ∷ xs) m most j r i u = go (is_unknown cs (condition_number x)) refl i (λ y. first_least cs xs (condition_number x) most j r.2 y u)
  where
    go : (t : Bool) → is_unknown cs (condition_number x) ≡ t → (j ≡ condition_number x) ⊎ Names j (map condition_number xs)
        → (Names j (map condition_number xs) → first_unknown cs (map condition_number xs) ≤ j) → cond t (condition_number x) (first_unknown cs (map condition_number xs)) ≤ j
    go true e (inl y) ih = omega arith
    go true e (inr y) ih = let q = above (condition_number x) most j xs r.2 y in omega arith
    go false e (inl y) ih = absurd (true≢false (sym u ∙ ap (is_unknown cs) y ∙ e))
    go false e (inr y) ih = ih y

same : (v : Bool) → v ≡ true → not (not v) ≡ false → ⊥
same true p q = true≢false q
same false p q = false≢true p

row_lowest : (cs xs : List ℕ) (most : ℕ) (test : Assignment → Bool) → NumbersRise 0 most xs
    → some cs (map condition_number xs) test ≡ true → every cs (map condition_number xs) test ≡ false
    → Lowest cs (map condition_number xs) (first_unknown cs (map condition_number xs))
row_lowest cs xs most test r s e = go (fillable cs (map condition_number xs))
  where
    go : Fillable cs (map condition_number xs) (first_unknown cs (map condition_number xs)) → Lowest cs (map condition_number xs) (first_unknown cs (map condition_number xs))
    go (one x y) = record { named = x; unknown = y; least = λ j i u. first_least cs xs 0 most j r i u }
    go (nothing x) = absurd (same (test (told cs)) (sym (x test) ∙ s) (ap not (sym (x (λ a. not (test a)))) ∙ e))

-- the entry that is left open
pub record LeftOpen (cs : List ℕ) (es : List Entry) (place line k : ℕ) : Type 0 where
  pub row : Entry
  pub inside : In row es
  pub place_is : row.place ≡ place
  pub line_is : row.line ≡ line
  pub some_break : some cs row.conditions row.is_broken_by ≡ true
  pub not_every : every cs row.conditions row.is_broken_by ≡ false
  pub condition_is : first_unknown cs row.conditions ≡ k

same_entries : (k l c m n d : ℕ) → ◌≡◌ {A = Outcome} (Err (Unsettled k l c)) (Err (Unsettled m n d)) → (k ≡ m) × (l ≡ n) × (c ≡ d)
same_entries k l c m n d q = (cc, cc, cc)

left_open : (cs : List ℕ) (es : List Entry) (k l c : ℕ) → found_among cs es ≡ Err (Unsettled k l c) → LeftOpen cs es k l c
unfolding found_among
left_open cs [] k l c q = absurd (unsettled_kept k l c (sym q))
left_open cs (e ∷ es) k l c q =
    go (some cs e.conditions e.is_broken_by) refl (every cs e.conditions e.is_broken_by) refl q (left_open cs es k l c)
  where
    go : (s : Bool) → some cs e.conditions e.is_broken_by ≡ s → (t : Bool) → every cs e.conditions e.is_broken_by ≡ t
        → cond s (cond t (Err (Broken e.place e.line)) (Err (Unsettled e.place e.line (first_unknown cs e.conditions)))) (found_among cs es) ≡ Err (Unsettled k l c)
        → (found_among cs es ≡ Err (Unsettled k l c) → LeftOpen cs es k l c) → LeftOpen cs (e ∷ es) k l c
    go true x true y z r = absurd (broken_unsettled _ _ _ _ _ z)
    go true x false y z r =
        let w = same_entries _ _ _ _ _ _ z in
        record {
          row = e;
          inside = inl refl;
          place_is = w.0;
          line_is = w.1;
          some_break = x;
          not_every = y;
          condition_is = w.2;
        }
    go false x t y z r =
        let w = r z in
        record {
          row = w.row;
          inside = inr w.inside;
          place_is = w.place_is;
          line_is = w.line_is;
          some_break = w.some_break;
          not_every = w.not_every;
          condition_is = w.condition_is;
        }

module _ (book : List ℕ) (good : GoodBook book) (p : ℕ) (known : p < (guide_of book).identifiers) (hs ps cs : List ℕ) where
  -- where an entry is left open, the first of its conditions that is unknown is the lowest
  abbrev pub OpenLowest : Entry → Type 0
  OpenLowest e = (e.conditions ≡ conditions_of (row_of (guide_of book) p e.line))
      × (some cs e.conditions e.is_broken_by ≡ true → every cs e.conditions e.is_broken_by ≡ false → Lowest cs e.conditions (first_unknown cs e.conditions))

  pub open_lowest : All OpenLowest (entries_of (guide_of book) p hs ps)
  open_lowest =
      all_entries (guide_of book) p hs ps OpenLowest
      (λ l i j t seen. (
        refl,
        row_lowest cs (in_use (row_of (guide_of book) p l).conditions) (guide_of book).conditions (entry_for (row_of (guide_of book) p l) l t seen).is_broken_by
            (row_rises book good p l known i j),
      ))

  -- 01, number 15: "lowest unknown condition of the row"
  pub lowest : (k l c : ℕ) → first_row (guide_of book) p cs hs ps ≡ Err (Unsettled k l c) → Lowest cs (conditions_of (row_of (guide_of book) p l)) c
  lowest k l c q =
      let o = left_open cs (entries_of (guide_of book) p hs ps) k l c q in
      let h = all_of OpenLowest o.row (entries_of (guide_of book) p hs ps) open_lowest o.inside in
      subst (λ (n : ℕ). Lowest cs (conditions_of (row_of (guide_of book) p n)) c) o.line_is
      (subst (λ (ks : List ℕ). Lowest cs ks c) h.0 (subst (Lowest cs o.row.conditions) o.condition_is (h.1 o.some_break o.not_every)))
