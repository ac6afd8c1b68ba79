-- Law exact_outcome: what the code works out from the two readings of a row, its unknown literals all false and all true, is never,
-- always or sometimes exactly as no filling, every filling or only some break the row. A row names no condition twice, so there is
-- a filling that makes every unknown literal false, and one that makes every one true; the expression has no "not" but in its
-- literals, so every other filling lies between the two.
use Prim.Native.Nat.{ℕ, ◌≤◌, ◌<◌}
use native.Mathlib.Omega.{arith}
use native.Mathlib.Decide.{dec_lt}
use mathlib.Core.Path.{◌≡◌, refl, sym, ap, ◌∙◌, subst}
use mathlib.Core.Logic.{◌⊎◌, inl, inr, ⊎_elim, ◌↔◌, dite}
use mathlib.Core.List.{List, [], ◌∷◌, map}
use mathlib.Core.Bool.{Bool, true, false, not, cond, ◌&&◌, ◌||◌, true≢false, false≢true}
use lib.Dec.{eqb}
use borrow.Author.Tests.{eq-eqb, ne_eqb}
use Rattle.guide.specs.meaning.Words.{any_joint, must_if_mode}
use Rattle.guide.specs.meaning.Guide.{guide_of}
use Rattle.book.specs.meaning.GoodBook.{GoodBook}
use Rattle.guide.specs.meaning.View.{Row, row_of, in_use}
use Rattle.book_laws.proofs.ViewedRows.{NumbersRise, plain_row, row_expression}
use Rattle.rules.specs.meaning.Conditions.{Assignment, is_unknown, told, Filling}
use Rattle.rules_laws.specs.laws.FirstFound.{some, every}
use Rattle.rules.specs.meaning.Rows.{condition_number, is_negated, literal, all_hold, any_holds, expression, conditions_of, is_broken}
use Rattle.rules.specs.method.Scanning.{guessed, joined, reading, read_row, weighed, breach_of, first_unknown}
use Rattle.rules.specs.declared.breach.Breach.TheVariants.{Never, Always, Sometimes}
use Rattle.rules_laws.proofs.Fillings.{Agree, LooksAt, some_is, some_has}
use Rattle.reading.proofs.Booleans.{or-true}

-- ---- an expression, joint by joint

abbrev pub holds : Bool → Assignment → List ℕ → Bool
holds any a xs = cond any (any_holds a xs) (all_hold a xs)

holds_nil : (any : Bool) (a : Assignment) → holds any a [] ≡ not any
unfolding any_holds all_hold
holds_nil true a = refl
holds_nil false a = refl

holds_cons : (any : Bool) (a : Assignment) (x : ℕ) (xs : List ℕ) → holds any a (x ∷ xs) ≡ joined any (literal a x) (holds any a xs)
unfolding any_holds all_hold
holds_cons true a x xs = refl
holds_cons false a x xs = refl

abbrev flipped : Bool → Bool → Bool
flipped t v = cond t (not v) v

literal_is : (a : Assignment) (x : ℕ) → literal a x ≡ flipped (is_negated x) (a (condition_number x))
unfolding literal
literal_is a x = refl

-- it looks at its conditions only
pub holds_looks : (any : Bool) (xs : List ℕ) → LooksAt (map condition_number xs) (λ a. holds any a xs)
holds_looks any [] a b h = holds_nil any a ∙ sym (holds_nil any b)
holds_looks any (x ∷ xs) a b h =
    holds_cons any a x xs
    ∙ (λ i. joined any ((literal_is a x ∙ ap (flipped (is_negated x)) h.0 ∙ sym (literal_is b x)) i) (holds_looks any xs a b h.1 i))
    ∙ sym (holds_cons any b x xs)

-- ---- the filling that makes each unknown literal what is guessed

choosing : Bool → List ℕ → List ℕ → Assignment
choosing guess cs [] k = told cs k
choosing guess cs (x ∷ xs) k =
    cond (eqb k (condition_number x)) (cond (is_unknown cs k) (flipped (is_negated x) guess) (told cs k)) (choosing guess cs xs k)

choosing_filling : (guess : Bool) (cs xs : List ℕ) → Filling cs (choosing guess cs xs)
unfolding choosing
choosing_filling guess cs [] k e = refl
choosing_filling guess cs (x ∷ xs) k e = go (eqb k (condition_number x)) (choosing_filling guess cs xs k e)
  where
    go : (t : Bool) → choosing guess cs xs k ≡ told cs k
        → cond t (cond (is_unknown cs k) (flipped (is_negated x) guess) (told cs k)) (choosing guess cs xs k) ≡ told cs k
    go true h = rw e
    go false h = h

flipped_twice : (t v : Bool) → flipped t (flipped t v) ≡ v
flipped_twice true true = refl
flipped_twice true false = refl
flipped_twice false v = refl

flipped_choice : (t u r v : Bool) → flipped t (cond u (flipped t r) v) ≡ cond u r (flipped t v)
flipped_choice t true r v = flipped_twice t r
flipped_choice t false r v = refl

choosing_literal : (guess : Bool) (cs : List ℕ) (x : ℕ) (xs : List ℕ) → literal (choosing guess cs (x ∷ xs)) x ≡ guessed cs guess x
unfolding choosing literal
choosing_literal guess cs x xs =
    rw (eq-eqb (condition_number x) (condition_number x) refl)
    (flipped_choice (is_negated x) (is_unknown cs (condition_number x)) guess (told cs (condition_number x)))

-- later literals have other numbers
choosing_later : (guess : Bool) (cs : List ℕ) (x : ℕ) (xs ys : List ℕ) (m most : ℕ) → condition_number x ≤ m → NumbersRise m most ys
    → Agree (map condition_number ys) (choosing guess cs (x ∷ xs)) (choosing guess cs xs)
unfolding choosing
choosing_later guess cs x xs [] m most h k = tt
choosing_later guess cs x xs (y ∷ ys) m most h k =
    (rw (ne_eqb (condition_number y) (condition_number x) (omega arith)), choosing_later guess cs x xs ys (condition_number y) most (omega arith) k.2)

choosing_reads : (guess : Bool) (cs : List ℕ) (any : Bool) (xs : List ℕ) (m most : ℕ) → NumbersRise m most xs
    → holds any (choosing guess cs xs) xs ≡ reading any cs guess xs
unfolding reading
choosing_reads guess cs any [] m most k = holds_nil any _
choosing_reads guess cs any (x ∷ xs) m most k =
    holds_cons any (choosing guess cs (x ∷ xs)) x xs
    ∙ (λ i. joined any (choosing_literal guess cs x xs i)
    ((holds_looks any xs _ _ (choosing_later guess cs x xs xs (condition_number x) most (omega arith) k.2)
    ∙ choosing_reads guess cs any xs (condition_number x) most k.2) i))

-- ---- every filling lies between the two readings

abbrev Below : Bool → Bool → Type 0
Below v w = v ≡ true → w ≡ true

joined_below : (any v w x y : Bool) → Below v x → Below w y → Below (joined any v w) (joined any x y)
joined_below false true w x y h k e = rw (h refl) (k e)
joined_below false false w x y h k e = absurd (false≢true e)
joined_below true true w x y h k e = rw (h refl)
joined_below true false w x y h k e = rw (k e) (or-true x)

literal_above : (u v w : Bool) → (u ≡ false → w ≡ v) → Below (cond u false v) w
literal_above true v w h e = absurd (false≢true e)
literal_above false v w h e = h refl ∙ e

literal_below : (u v w : Bool) → (u ≡ false → w ≡ v) → Below w (cond u true v)
literal_below true v w h e = refl
literal_below false v w h e = sym (h refl) ∙ e

told_literal : (cs : List ℕ) (a : Assignment) (x : ℕ) → Filling cs a → is_unknown cs (condition_number x) ≡ false → literal a x ≡ literal (told cs) x
told_literal cs a x h q = literal_is a x ∙ ap (flipped (is_negated x)) (h (condition_number x) q) ∙ sym (literal_is (told cs) x)

reading_low : (any : Bool) (cs xs : List ℕ) (a : Assignment) → Filling cs a → Below (reading any cs false xs) (holds any a xs)
unfolding reading
reading_low any cs [] a h e = holds_nil any a ∙ e
reading_low any cs (x ∷ xs) a h e =
    holds_cons any a x xs
    ∙ joined_below any (guessed cs false x) (reading any cs false xs) (literal a x) (holds any a xs)
    (literal_above (is_unknown cs (condition_number x)) _ _ (told_literal cs a x h)) (reading_low any cs xs a h) e

reading_high : (any : Bool) (cs xs : List ℕ) (a : Assignment) → Filling cs a → Below (holds any a xs) (reading any cs true xs)
unfolding reading
reading_high any cs [] a h e = sym (holds_nil any a) ∙ e
reading_high any cs (x ∷ xs) a h e =
    joined_below any (literal a x) (holds any a xs) (guessed cs true x) (reading any cs true xs)
    (literal_below (is_unknown cs (condition_number x)) _ _ (told_literal cs a x h)) (reading_high any cs xs a h) (sym (holds_cons any a x xs) ∙ e)

pinched : (l h v : Bool) → Below l v → Below v h → (v ≡ l) ⊎ (v ≡ h)
pinched l h true p q = inr (sym (q refl))
pinched true h false p q = inl (p refl)
pinched false h false p q = inl refl

either_reading : (any : Bool) (cs xs : List ℕ) (a : Assignment) → Filling cs a
    → (holds any a xs ≡ reading any cs false xs) ⊎ (holds any a xs ≡ reading any cs true xs)
either_reading any cs xs a h = pinched _ _ _ (reading_low any cs xs a h) (reading_high any cs xs a h)

-- ---- so `some` and `every` are an or and an and of the two

module _ (cs : List ℕ) (any : Bool) (xs : List ℕ) (m most : ℕ) (rises : NumbersRise m most xs) where
  pub some_reading : (f : Bool → Bool) → some cs (map condition_number xs) (λ a. f (holds any a xs)) ≡ (f (reading any cs false xs) || f (reading any cs true xs))
  some_reading f = go (f (reading any cs false xs)) (f (reading any cs true xs)) refl refl
    where
      hit : (r : Bool) → f (reading any cs r xs) ≡ true → some cs (map condition_number xs) (λ a. f (holds any a xs)) ≡ true
      hit r e =
          some_has cs (map condition_number xs) (λ a. f (holds any a xs)) (choosing r cs xs) (choosing_filling r cs xs)
          (λ a b p q s. ap f (holds_looks any xs a b s)) (ap f (choosing_reads r cs any xs m most rises) ∙ e)

      miss : (v : Bool) → some cs (map condition_number xs) (λ a. f (holds any a xs)) ≡ v → f (reading any cs false xs) ≡ false → f (reading any cs true xs) ≡ false → v ≡ false
      miss false q x y = refl
      miss true q x y =
          let w = some_is cs (map condition_number xs) (λ a. f (holds any a xs)) q in
          ⊎_elim (λ e. sym w.gives ∙ ap f e ∙ x) (λ e. sym w.gives ∙ ap f e ∙ y) (either_reading any cs xs w.a w.filling)

      go : (v w : Bool) → f (reading any cs false xs) ≡ v → f (reading any cs true xs) ≡ w → some cs (map condition_number xs) (λ a. f (holds any a xs)) ≡ (v || w)
      go true w x y = hit false x
      go false true x y = hit true y
      go false false x y = miss _ refl x y

  pub every_reading : (f : Bool → Bool) → every cs (map condition_number xs) (λ a. f (holds any a xs)) ≡ (f (reading any cs false xs) && f (reading any cs true xs))
  every_reading f = ap not (some_reading (λ v. not (f v))) ∙ go (f (reading any cs false xs)) (f (reading any cs true xs))
    where
      go : (v w : Bool) → not (not v || not w) ≡ (v && w)
      go true true = refl
      go true false = refl
      go false w = refl

-- ---- of a row

-- a row's conditions rise
abbrev pub Rises : ℕ → Row → Type 0
Rises most w = NumbersRise 0 most (in_use w.conditions)

abbrev pub breaks : Row → Bool → Assignment → Bool
breaks w present a = is_broken w.mode present (expression w a)

pub breaks_looks : (w : Row) (present : Bool) → LooksAt (conditions_of w) (breaks w present)
breaks_looks w present a b h = ap (is_broken w.mode present) (holds_looks (eqb w.joint any_joint) (in_use w.conditions) a b h)

abbrev pub lowly : List ℕ → Row → Bool → Bool
lowly cs w present = is_broken w.mode present (read_row cs false w)

abbrev pub highly : List ℕ → Row → Bool → Bool
highly cs w present = is_broken w.mode present (read_row cs true w)

pub some_breaks : (cs : List ℕ) (most : ℕ) (w : Row) (present : Bool) → Rises most w
    → some cs (conditions_of w) (breaks w present) ≡ (lowly cs w present || highly cs w present)
some_breaks cs most w present r = some_reading cs (eqb w.joint any_joint) (in_use w.conditions) 0 most r (is_broken w.mode present)

pub every_breaks : (cs : List ℕ) (most : ℕ) (w : Row) (present : Bool) → Rises most w
    → every cs (conditions_of w) (breaks w present) ≡ (lowly cs w present && highly cs w present)
every_breaks cs most w present r = every_reading cs (eqb w.joint any_joint) (in_use w.conditions) 0 most r (is_broken w.mode present)

-- the law
pub record ExactOutcome (cs : List ℕ) (w : Row) (present : Bool) : Type 0 where
  pub never : (breach_of cs w present ≡ Never) ↔ ((a : Assignment) → Filling cs a → breaks w present a ≡ false)
  pub always : (breach_of cs w present ≡ Always) ↔ ((a : Assignment) → Filling cs a → breaks w present a ≡ true)
  pub sometimes : ((k : ℕ) × (breach_of cs w present ≡ Sometimes k))
      ↔ (((a : Assignment) × Filling cs a × (breaks w present a ≡ true)) × ((a : Assignment) × Filling cs a × (breaks w present a ≡ false)))

not_never : (k : ℕ) → Sometimes k ≡ Never → ⊥
not_never k e = let z : ◌≡◌ {A = ℕ} 0 1 = cc in omega arith

not_always : (k : ℕ) → Sometimes k ≡ Always → ⊥
not_always k e = let z : ◌≡◌ {A = ℕ} 0 1 = cc in omega arith

never_always : Never ≡ Always → ⊥
never_always e = let z : ◌≡◌ {A = ℕ} 0 1 = cc in omega arith

module _ (cs : List ℕ) (most : ℕ) (w : Row) (present : Bool) (rises : Rises most w) where
  abbrev Broken : Bool → Type 0
  Broken v = (a : Assignment) × Filling cs a × (breaks w present a ≡ v)

  -- the two readings are reached
  reached : (guess : Bool) → Broken (is_broken w.mode present (read_row cs guess w))
  reached guess = (
    choosing guess cs (in_use w.conditions),
    choosing_filling guess cs (in_use w.conditions),
    ap (is_broken w.mode present) (choosing_reads guess cs (eqb w.joint any_joint) (in_use w.conditions) 0 most rises),
  )

  -- and no other is
  between : (v : Bool) → lowly cs w present ≡ v → highly cs w present ≡ v → (a : Assignment) → Filling cs a → breaks w present a ≡ v
  between v x y a h =
      ⊎_elim (λ e. ap (is_broken w.mode present) e ∙ x) (λ e. ap (is_broken w.mode present) e ∙ y)
      (either_reading (eqb w.joint any_joint) cs (in_use w.conditions) a h)

  pub exact_outcome : ExactOutcome cs w present
  exact_outcome = go (lowly cs w present) (highly cs w present) refl refl
    where
      at : (guess v : Bool) → is_broken w.mode present (read_row cs guess w) ≡ v → Broken v
      at guess v e = let r = reached guess in (r.0, r.1, r.2 ∙ e)

      go : (x y : Bool) → lowly cs w present ≡ x → highly cs w present ≡ y → ExactOutcome cs w present
      go true true p q =
          let e : breach_of cs w present ≡ Always = (λ i. weighed (p i) (q i) (first_unknown cs (conditions_of w))) in
          record {
            never = (λ n. absurd (never_always (sym n ∙ e)), λ h. let r = at false true p in absurd (true≢false (sym r.2 ∙ h r.0 r.1)));
            always = (λ _. between true p q, λ _. e);
            sometimes = (
              λ s. absurd (not_always s.0 (sym s.1 ∙ e)),
              λ s. absurd (true≢false (sym (between true p q s.1.0 s.1.1) ∙ s.1.2)),
            );
          }
      go true false p q =
          let e : breach_of cs w present ≡ Sometimes (first_unknown cs (conditions_of w)) = (λ i. weighed (p i) (q i) (first_unknown cs (conditions_of w))) in
          let r = at false true p in
          let s = at true false q in
          record {
            never = (λ n. absurd (not_never _ (sym e ∙ n)), λ h. absurd (true≢false (sym r.2 ∙ h r.0 r.1)));
            always = (λ n. absurd (not_always _ (sym e ∙ n)), λ h. absurd (true≢false (sym (h s.0 s.1) ∙ s.2)));
            sometimes = (λ _. (r, s), λ _. (first_unknown cs (conditions_of w), e));
          }
      go false true p q =
          let e : breach_of cs w present ≡ Sometimes (first_unknown cs (conditions_of w)) = (λ i. weighed (p i) (q i) (first_unknown cs (conditions_of w))) in
          let r = at true true q in
          let s = at false false p in
          record {
            never = (λ n. absurd (not_never _ (sym e ∙ n)), λ h. absurd (true≢false (sym r.2 ∙ h r.0 r.1)));
            always = (λ n. absurd (not_always _ (sym e ∙ n)), λ h. absurd (true≢false (sym (h s.0 s.1) ∙ s.2)));
            sometimes = (λ _. (r, s), λ _. (first_unknown cs (conditions_of w), e));
          }
      go false false p q =
          let e : breach_of cs w present ≡ Never = (λ i. weighed (p i) (q i) (first_unknown cs (conditions_of w))) in
          record {
            never = (λ _. between false p q, λ _. e);
            always = (λ n. absurd (never_always (sym e ∙ n)), λ h. let r = at false false p in absurd (true≢false (sym (h r.0 r.1) ∙ r.2)));
            sometimes = (
              λ s. absurd (not_never s.0 (sym s.1 ∙ e)),
              λ s. absurd (true≢false (sym s.0.2 ∙ between false p q s.0.0 s.0.1)),
            );
          }

-- ---- of a row of a good book

module _ (book : List ℕ) (good : GoodBook book) (p l : ℕ) (known : p < (guide_of book).identifiers) (from : 1 ≤ l) (to : l ≤ (guide_of book).lines) where
  pub row_rises : Rises (guide_of book).conditions (row_of (guide_of book) p l)
  row_rises =
      dite (dec_lt (row_of (guide_of book) p l).mode must_if_mode)
      (λ m. let e = plain_row book good p l known from to (omega arith) in
      subst (λ (xs : List ℕ). NumbersRise 0 (guide_of book).conditions (in_use xs)) (sym e.1) tt)
      (λ m. (row_expression book good p l known from to (omega arith)).rising)

  pub exact_row : (cs : List ℕ) (present : Bool) → ExactOutcome cs (row_of (guide_of book) p l) present
  exact_row cs present = exact_outcome cs (guide_of book).conditions (row_of (guide_of book) p l) present row_rises
