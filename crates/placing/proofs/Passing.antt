-- The steps of the two passes over a message.
use Prim.Native.Nat.{ℕ, ◌+◌, ◌-◌, ◌≤◌, ◌<◌}
use native.Mathlib.Omega.{arith}
use native.Mathlib.Numerals.{add-one}
use mathlib.Core.Path.{◌≡◌, refl, sym, ap, ap₂, ◌∙◌}
use mathlib.Core.List.{List, [], ◌∷◌, ◌++◌, map}
use mathlib.Core.Bool.{Bool, cond}
use lib.Dec.{eqb}
use lib.ListN.{length, set, drop}
use lib.Seq.{sets, sets-eq}
use borrow.Author.Tests.{eq-eqb, ne_eqb}
use Rattle.guide.specs.meaning.Guide.{guide_of}
use Rattle.reading.specs.method.Machine.{next_segment}
use Rattle.reading.specs.declared.service.Service.{Service}
use Rattle.reading.specs.declared.span.Span.{Span}
use Rattle.reading.specs.declared.cursor.Cursor.{Cursor}
use Rattle.reading.proofs.Starts.{starts_found, no_starts, starts_end}
use Rattle.guide.specs.meaning.Plan.{plan_in}
use Rattle.placing.specs.method.Fitting.{home_at}
use Rattle.placing.specs.method.Tables.{or_none}
use Rattle.placing.specs.method.Walking.{start, walked, advanced, is_alive}
use Rattle.placing.specs.method.Tree.{root_only, parent_in, opened_by, noted}
use Rattle.slices.specs.method.Entries.{entry}
use Rattle.reading.specs.method.Starts.{starts_from, starts_table}
use Rattle.placing.specs.method.Passes.{homes_from, first_stop, outcome_of, tested_from, tested, homes_table, parents_table}
use Rattle.placing.specs.declared.walk.Level.{Level}
use Rattle.placing.specs.declared.passes.Unplaced.{Unplaced}
use Rattle.placing.specs.declared.passes.Unplaced.TheVariants.{NoHome}
use Rattle.std.specs.Prelude.{⊤, Option, Some, None, Result, Err}

-- so many entries, and what was there behind them
pub filled : (xs table : List ℕ) (n : ℕ) → length xs ≡ n → n ≤ length table → sets table 0 xs ≡ xs ++ drop n table
filled xs table n e h = let all : 0 + length xs ≡ n = omega arith in sets-eq xs table 0 (omega arith) ∙ ap (λ (k : ℕ). xs ++ drop k table) all

module _ (s : Service) (bs book : List ℕ) where
  -- ---- the home that is found: that of the segment at this offset, in this book

  pub found_home : (r : Option ℕ) (t : Service) (read kept : List ℕ) (at start : ℕ) → r ≡ or_none (home_at t (guide_of kept) read start)
      → t ≡ s → read ≡ bs → start ≡ at → kept ≡ book → r ≡ or_none (home_at s (guide_of book) bs at)
  found_home r t read kept at start h i j k l =
      h ∙ ap₂ (λ (x : Service) (y : List ℕ). or_none (home_at x (guide_of kept) y start)) i j
      ∙ ap₂ (λ (y : ℕ) (b : List ℕ). or_none (home_at s (guide_of b) bs y)) k l

  -- ---- the segments that are left, where k of n have been passed

  homes_found : (k n at : ℕ) (x : Span) (next : Cursor) → k < n → Some (x, next) ≡ next_segment s bs at
      → homes_from s bs book (n - k) at ≡ home_at s (guide_of book) bs at ∷ homes_from s bs book (n - (k + 1)) next.at
  homes_found k n at x next h e = ap (map (home_at s (guide_of book) bs)) (starts_found s bs k n at x next h e)

  -- ---- the test

  abbrev alive : List ℕ → Bool
  alive hs = is_alive (walked (plan_in book) start hs)

  tested_next : (seen : List ℕ) (stop : Option ℕ) (k h : ℕ) (hs : List ℕ) → tested_from (plan_in book) seen stop k (h ∷ hs)
      ≡ cond (eqb h 0) (Err (NoHome (k + 1))) (tested_from (plan_in book) (seen ++ (h ∷ [])) (first_stop stop (alive (seen ++ (h ∷ []))) (k + 1)) (k + 1) hs)
  unfolding tested_from
  tested_next seen stop k h hs =
      ap (λ (n : ℕ). cond (eqb h 0) (Err (NoHome n)) (tested_from (plan_in book) (seen ++ (h ∷ [])) (first_stop stop (alive (seen ++ (h ∷ []))) n) n hs)) (sym (add-one k))

  tested_nil : (seen : List ℕ) (stop : Option ℕ) (k : ℕ) → tested_from (plan_in book) seen stop k [] ≡ outcome_of stop
  unfolding tested_from
  tested_nil seen stop k = refl

  walked_last : (vs : List Level) (xs : List ℕ) (h : ℕ) → walked (plan_in book) vs (xs ++ (h ∷ [])) ≡ advanced (plan_in book) (walked (plan_in book) vs xs) h
  unfolding walked
  walked_last vs [] h = refl
  walked_last vs (x ∷ xs) h = walked_last (advanced (plan_in book) vs x) xs h

  walked_none : walked (plan_in book) start [] ≡ start
  unfolding walked
  walked_none = refl

  -- what the test answers from here on
  abbrev From : List ℕ → Option ℕ → ℕ → ℕ → ℕ → Result ⊤ Unplaced
  From seen stop k n at = tested_from (plan_in book) seen stop k (homes_from s bs book (n - k) at)

  -- the walk has come through the homes seen, and what is found from here on is what is found in all
  pub record Testing (n : ℕ) (vs : List Level) (stop : Option ℕ) (k at : ℕ) : Type 0 where
    pub seen : List ℕ
    pub stands : vs ≡ walked (plan_in book) start seen
    pub same : From seen stop k n at ≡ tested (plan_in book) (homes_from s bs book n 0)

  pub test_begin : (n : ℕ) (vs : List Level) (at : ℕ) → vs ≡ start → at ≡ 0 → Testing n vs None 0 at
  test_begin n vs at i z =
      let nought : n - 0 ≡ n = omega arith in
      record { seen = []; stands = i ∙ sym walked_none; same = ap₂ (λ (m y : ℕ). tested_from (plan_in book) [] None 0 (homes_from s bs book m y)) nought z }

  module _ (n : ℕ) (vs : List Level) (stop : Option ℕ) (k at : ℕ) (t : Testing n vs stop k at) where
    module _ (x : Span) (next : Cursor) (h : ℕ) (within : k < n) (e : Some (x, next) ≡ next_segment s bs at) (here : h ≡ home_at s (guide_of book) bs at) where
      turn : From t.seen stop k n at
          ≡ cond (eqb h 0) (Err (NoHome (k + 1))) (From (t.seen ++ (h ∷ [])) (first_stop stop (alive (t.seen ++ (h ∷ []))) (k + 1)) (k + 1) n next.at)
      turn =
          ap (tested_from (plan_in book) t.seen stop k) (homes_found k n at x next within e)
          ∙ tested_next t.seen stop k (home_at s (guide_of book) bs at) (homes_from s bs book (n - (k + 1)) next.at)
          ∙ ap (λ (y : ℕ). cond (eqb y 0) (Err (NoHome (k + 1))) (From (t.seen ++ (y ∷ [])) (first_stop stop (alive (t.seen ++ (y ∷ []))) (k + 1)) (k + 1) n next.at)) (sym here)

      pub test_homeless : h ≡ 0 → Err (NoHome (k + 1)) ≡ tested (plan_in book) (homes_from s bs book n 0)
      test_homeless z = sym (turn ∙ simp (eq-eqb h 0 z)) ∙ t.same

      pub test_on : (moved : List Level) (then : Option ℕ) (live : Bool) → 1 ≤ h → moved ≡ advanced (plan_in book) vs h → live ≡ is_alive moved
          → then ≡ first_stop stop live (k + 1) → Testing n moved then (k + 1) next.at
      test_on moved then live z m l f =
          let stands : moved ≡ walked (plan_in book) start (t.seen ++ (h ∷ [])) =
          m ∙ ap (λ (us : List Level). advanced (plan_in book) us h) t.stands ∙ sym (walked_last start t.seen h) in
          record {
            seen = t.seen ++ (h ∷ []);
            stands = stands;
            same =
                ap (λ (y : Option ℕ). From (t.seen ++ (h ∷ [])) y (k + 1) n next.at) (f ∙ ap (λ (y : Bool). first_stop stop y (k + 1)) (l ∙ ap is_alive stands))
                ∙ sym (turn ∙ simp (ne_eqb h 0 (λ y. omega arith))) ∙ t.same;
          }

    none_left_to_test : starts_from s bs (n - k) at ≡ [] → outcome_of stop ≡ tested (plan_in book) (homes_from s bs book n 0)
    none_left_to_test e = sym (ap (λ (ys : List ℕ). tested_from (plan_in book) t.seen stop k (map (home_at s (guide_of book) bs) ys)) e ∙ tested_nil t.seen stop k) ∙ t.same

    pub test_nothing : None ≡ next_segment s bs at → outcome_of stop ≡ tested (plan_in book) (homes_from s bs book n 0)
    test_nothing e = none_left_to_test (no_starts s bs (n - k) at e)

    pub test_end : n ≤ k → outcome_of stop ≡ tested (plan_in book) (homes_from s bs book n 0)
    test_end h = none_left_to_test (starts_end s bs k n at h)

  -- ---- the tables

  -- what is still to be written, where k entries stand and n are wanted, leads to the whole tables
  pub record Writing (n : ℕ) (starts₀ homes₀ parents₀ starts homes parents : List ℕ) (at : ℕ) (trail : List ℕ) (k : ℕ) : Type 0 where
    pub starts_left : sets starts k (map entry (starts_from s bs (n - k) at)) ≡ starts_table s bs n starts₀
    pub homes_left : sets homes k (homes_from s bs book (n - k) at) ≡ homes_table s bs book n homes₀
    pub parents_left : sets parents k (noted (plan_in book) k trail (homes_from s bs book (n - k) at)) ≡ parents_table s bs book n parents₀

  pub write_begin : (n : ℕ) (starts homes parents : List ℕ) (at : ℕ) (trail : List ℕ) → at ≡ 0 → trail ≡ root_only
      → Writing n starts homes parents starts homes parents at trail 0
  write_begin n starts homes parents at trail z e =
      let nought : n - 0 ≡ n = omega arith in
      record {
        starts_left = ap₂ (λ (m y : ℕ). sets starts 0 (map entry (starts_from s bs m y))) nought z;
        homes_left = ap₂ (λ (m y : ℕ). sets homes 0 (homes_from s bs book m y)) nought z;
        parents_left =
            ap (λ (t : List ℕ). sets parents 0 (noted (plan_in book) 0 t (homes_from s bs book (n - 0) at))) e
            ∙ ap₂ (λ (m y : ℕ). sets parents 0 (noted (plan_in book) 0 root_only (homes_from s bs book m y))) nought z;
      }

  -- one entry more
  put_next : (table xs : List ℕ) (k x : ℕ) → sets (set table k x) (k + 1) xs ≡ sets table k (x ∷ xs)
  put_next table xs k x = ap (λ (n : ℕ). sets (set table k x) n xs) (add-one k)

  noted_next : (k h : ℕ) (trail hs : List ℕ) → noted (plan_in book) k trail (h ∷ hs) ≡ parent_in (plan_in book) trail h ∷ noted (plan_in book) (k + 1) (opened_by (plan_in book) trail h (k + 1)) hs
  unfolding noted
  noted_next k h trail hs = ap (λ (n : ℕ). parent_in (plan_in book) trail h ∷ noted (plan_in book) n (opened_by (plan_in book) trail h n) hs) (sym (add-one k))

  module _ (n : ℕ) (starts₀ homes₀ parents₀ starts homes parents : List ℕ) (at : ℕ) (trail : List ℕ) (k : ℕ) (w : Writing n starts₀ homes₀ parents₀ starts homes parents at trail k) where
    pub write_on : (x : Span) (next : Cursor) (i h p : ℕ) (starts₁ homes₁ parents₁ opened : List ℕ) → k < n → Some (x, next) ≡ next_segment s bs at
        → i ≡ entry at → h ≡ home_at s (guide_of book) bs at → p ≡ parent_in (plan_in book) trail h
        → starts₁ ≡ set starts k i → homes₁ ≡ set homes k h → parents₁ ≡ set parents k p
        → opened ≡ opened_by (plan_in book) trail h (k + 1)
        → Writing n starts₀ homes₀ parents₀ starts₁ homes₁ parents₁ next.at opened (k + 1)
    write_on x next i h p starts₁ homes₁ parents₁ opened less e hi hh hp ds dh dp ho =
        record {
          starts_left =
              ap (λ (t : List ℕ). sets t (k + 1) (map entry (starts_from s bs (n - (k + 1)) next.at))) (ds ∙ ap (set starts k) hi)
              ∙ put_next starts (map entry (starts_from s bs (n - (k + 1)) next.at)) k (entry at)
              ∙ ap (λ (ys : List ℕ). sets starts k (map entry ys)) (sym (starts_found s bs k n at x next less e)) ∙ w.starts_left;
          homes_left =
              ap (λ (t : List ℕ). sets t (k + 1) (homes_from s bs book (n - (k + 1)) next.at)) dh
              ∙ put_next homes (homes_from s bs book (n - (k + 1)) next.at) k h ∙ ap (sets homes k) left ∙ w.homes_left;
          parents_left =
              ap (λ (t : List ℕ). sets t (k + 1) (noted (plan_in book) (k + 1) opened (homes_from s bs book (n - (k + 1)) next.at))) (dp ∙ ap (set parents k) hp)
              ∙ put_next parents (noted (plan_in book) (k + 1) opened (homes_from s bs book (n - (k + 1)) next.at)) k (parent_in (plan_in book) trail h)
              ∙ ap (λ (t : List ℕ). sets parents k (parent_in (plan_in book) trail h ∷ noted (plan_in book) (k + 1) t (homes_from s bs book (n - (k + 1)) next.at))) ho
              ∙ ap (sets parents k) (sym (noted_next k h trail (homes_from s bs book (n - (k + 1)) next.at)) ∙ ap (noted (plan_in book) k trail) left) ∙ w.parents_left;
        }
      where
        left : h ∷ homes_from s bs book (n - (k + 1)) next.at ≡ homes_from s bs book (n - k) at
        left = ap (λ (y : ℕ). y ∷ homes_from s bs book (n - (k + 1)) next.at) hh ∙ sym (homes_found k n at x next less e)

    -- nothing is left
    abbrev pub Written : Type 0
    Written = (starts ≡ starts_table s bs n starts₀) × (homes ≡ homes_table s bs book n homes₀) × (parents ≡ parents_table s bs book n parents₀)

    none_left_to_write : starts_from s bs (n - k) at ≡ [] → Written
    unfolding noted
    none_left_to_write done = (
      ap (λ (ys : List ℕ). sets starts k (map entry ys)) (sym done) ∙ w.starts_left,
      ap (λ (ys : List ℕ). sets homes k (map (home_at s (guide_of book) bs) ys)) (sym done) ∙ w.homes_left,
      ap (sets parents k) (sym noted-nil ∙ ap (λ (ys : List ℕ). noted (plan_in book) k trail (map (home_at s (guide_of book) bs) ys)) (sym done)) ∙ w.parents_left,
    )
      where
        noted-nil : noted (plan_in book) k trail [] ≡ []
        noted-nil = refl

    pub write_nothing : None ≡ next_segment s bs at → Written
    write_nothing e = none_left_to_write (no_starts s bs (n - k) at e)

    pub write_end : n ≤ k → Written
    write_end h = none_left_to_write (starts_end s bs k n at h)
