-- Law scanned: in a good book, and for the homes of a placed message, what the code finds is the first row that some filling breaks.
-- Line by line: the pass finds the instances with what they hold, and the two readings say of each row what its fillings do; a
-- required line is present in every instance, and so are its rows kept; a line that no instance can break adds nothing.
use Prim.Native.Nat.{ℕ, zero, suc, ◌+◌, ◌≤◌, ◌<◌}
use native.Mathlib.Omega.{arith}
use mathlib.Core.Path.{◌≡◌, refl, sym, ap, ◌∙◌, subst}
use mathlib.Core.List.{List, [], ◌∷◌, ◌++◌, map}
use mathlib.Core.Bool.{Bool, true, false, not, cond, ◌&&◌, ◌||◌, true≢false, false≢true}
use lib.Dec.{eqb}
use borrow.Author.Tests.{eq-eqb, ne_eqb, eqb-true, eqb-false}
use Rattle.guide.specs.meaning.Words.{must_mode}
use Rattle.reading.specs.meaning.Service.{All}
use Rattle.guide.specs.meaning.Guide.{Guide, guide_of}
use Rattle.book.specs.meaning.GoodBook.{GoodBook}
use Rattle.guide.specs.meaning.View.{Row, row_of}
use Rattle.book_laws.proofs.ViewedRows.{required_row}
use Rattle.guide.specs.meaning.Plan.{plan_of, plan_in, opening}
use Rattle.placing.specs.meaning.Placement.{Placed, parents_of}
use Rattle.guide.specs.meaning.Tree.{owner}
use Rattle.placing_laws.specs.laws.ClosedTree.{closed_parents}
use Rattle.placing.specs.method.Tree.{noted_parents}
use Rattle.placing_laws.proofs.Structured.{structured}
use Rattle.placing_laws.proofs.Noted.{tree}
use Rattle.placing_laws.proofs.Closed.{tree_closed}
use Rattle.rules.specs.meaning.Conditions.{Assignment}
use Rattle.rules_laws.specs.laws.FirstFound.{some, every, reported, found_among, first_row}
use Rattle.rules.specs.meaning.Rows.{conditions_of, is_broken, expression}
use Rattle.rules.specs.meaning.Instances.{instances_of, shown_by, first_of, is_present, place_in}
use Rattle.rules.specs.meaning.Entries.{Entry, entry_for, entries_in, entries_from}
use Rattle.rules.specs.method.Scanning.{Instance, instance_of, instances_in, weighed, breach_of, watch_of, is_never, is_idle, report_of, report_in, first_found, scanned_in, scanned_line, scanned_from, scanned_row, first_unknown}
use Rattle.rules.specs.declared.breach.Breach.{Breach}
use Rattle.rules.specs.declared.breach.Breach.TheVariants.{Never, Always, Sometimes}
use Rattle.rules.specs.declared.watch.Watch.{Watch}
use Rattle.rules.specs.method.Scanning.{Outcome}
use Rattle.rules.specs.declared.finding.Finding.TheVariants.{Broken, Unsettled}
use Rattle.std.specs.Prelude.{Ok, Err}
use Rattle.rules_laws.proofs.Exact.{Rises, breaks, lowly, highly, some_breaks, every_breaks, row_rises}
use Rattle.rules_laws.proofs.Lines.{placed_homed}
use Rattle.rules_laws.proofs.InstancesFound.{line_instances}
use Rattle.rules_laws.proofs.Required.{required_present}
use Rattle.rules_laws.proofs.Fillings.{some_is}
use Rattle.rules.proofs.Passing.{rows_of_some}
use Rattle.reading.proofs.Booleans.{left, right}

-- ---- one row in one instance

weighed_found : (lo hi : Bool) (k place line : ℕ) (rest : Outcome)
    → cond (lo || hi) (cond (lo && hi) (Err (Broken place line)) (Err (Unsettled place line k))) rest ≡ first_found (report_of (weighed lo hi k) place line) rest
weighed_found true true k place line rest = refl
weighed_found true false k place line rest = refl
weighed_found false true k place line rest = refl
weighed_found false false k place line rest = refl

row_found : (cs : List ℕ) (most : ℕ) (w : Row) (present : Bool) (place line : ℕ) (rest : Outcome) → Rises most w
    → cond (some cs (conditions_of w) (breaks w present))
    (cond (every cs (conditions_of w) (breaks w present)) (Err (Broken place line)) (Err (Unsettled place line (first_unknown cs (conditions_of w))))) rest
    ≡ first_found (report_of (breach_of cs w present) place line) rest
row_found cs most w present place line rest r =
    (λ i. cond (some_breaks cs most w present r i)
    (cond (every_breaks cs most w present r i) (Err (Broken place line)) (Err (Unsettled place line (first_unknown cs (conditions_of w))))) rest)
    ∙ weighed_found (lowly cs w present) (highly cs w present) (first_unknown cs (conditions_of w)) place line rest

module _ (g : Guide) (p : ℕ) (cs : List ℕ) (l most : ℕ) (rises : Rises most (row_of g p l)) (optional : (g.required l ≡ 1) → ⊥) where
  entry_found : (t seen : ℕ) (rest : Outcome)
      → cond (some cs (conditions_of (row_of g p l)) (entry_for (row_of g p l) l t seen).is_broken_by) (reported cs (entry_for (row_of g p l) l t seen)) rest
      ≡ first_found (report_in (watch_of g p cs l) l (instance_of t seen)) rest
  entry_found t seen rest = go (eqb seen 0) ∙ sym (ap (λ (r : Bool). first_found (report_of (cond (eqb seen 0) (watched r false) (watched r true)) (place_in t seen) l) rest) (ne_eqb (g.required l) 1 optional))
    where
      watched : Bool → Bool → Breach
      watched r present = cond r Never (breach_of cs (row_of g p l) present)

      go : (b : Bool)
          → cond (some cs (conditions_of (row_of g p l)) (breaks (row_of g p l) (not b)))
          (cond (every cs (conditions_of (row_of g p l)) (breaks (row_of g p l) (not b))) (Err (Broken (place_in t seen) l))
          (Err (Unsettled (place_in t seen) l (first_unknown cs (conditions_of (row_of g p l)))))) rest
          ≡ first_found (report_of (cond b (breach_of cs (row_of g p l) false) (breach_of cs (row_of g p l) true)) (place_in t seen) l) rest
      go true = row_found cs most (row_of g p l) false (place_in t seen) l rest rises
      go false = row_found cs most (row_of g p l) true (place_in t seen) l rest rises

  -- ---- one line

  line_found : (hs ps ts : List ℕ) (es : List Entry)
      → found_among cs (entries_in g p l hs ps ts ++ es)
      ≡ scanned_in (watch_of g p cs l) l (map (λ t. instance_of t (first_of (plan_of g) l t hs ps)) ts) (found_among cs es)
  unfolding found_among entries_in scanned_in
  line_found hs ps [] es = refl
  line_found hs ps (t ∷ ts) es =
      entry_found t (first_of (plan_of g) l t hs ps) (found_among cs (entries_in g p l hs ps ts ++ es))
      ∙ ap (first_found (report_in (watch_of g p cs l) l (instance_of t (first_of (plan_of g) l t hs ps)))) (line_found hs ps ts es)

-- ---- one required line: its rows are never broken, and it is passed over

some_never : (cs ks : List ℕ) (test : Assignment → Bool) → ((a : Assignment) → test a ≡ false) → some cs ks test ≡ false
some_never cs ks test h = go (some cs ks test) refl
  where
    go : (v : Bool) → some cs ks test ≡ v → v ≡ false
    go false e = refl
    go true e = let w = some_is cs ks test e in absurd (true≢false (sym w.gives ∙ h w.a))

must_present : (mode : ℕ) (present value : Bool) → mode ≡ 1 → present ≡ true → is_broken mode present value ≡ false
must_present mode present value m h = rw (m, h)

required_found : (g : Guide) (p : ℕ) (cs : List ℕ) (l : ℕ) (hs ps ts : List ℕ) (es : List Entry) → (row_of g p l).mode ≡ must_mode
    → All (λ t. first_of (plan_of g) l t hs ps ≡ 0 → ⊥) ts → found_among cs (entries_in g p l hs ps ts ++ es) ≡ found_among cs es
unfolding found_among entries_in
required_found g p cs l hs ps [] es m h = refl
required_found g p cs l hs ps (t ∷ ts) es m h =
    rw (some_never cs (conditions_of (row_of g p l)) (entry_for (row_of g p l) l t (first_of (plan_of g) l t hs ps)).is_broken_by
    (λ a. must_present (row_of g p l).mode (is_present (first_of (plan_of g) l t hs ps)) (expression (row_of g p l) a) m (ap not (ne_eqb (first_of (plan_of g) l t hs ps) 0 h.0))))
    (required_found g p cs l hs ps ts es m h.1)

required_idle : (g : Guide) (p : ℕ) (cs : List ℕ) (l : ℕ) (hs : List ℕ) (rest : Outcome) → g.required l ≡ 1 → scanned_line (watch_of g p cs l) l hs rest ≡ rest
required_idle g p cs l hs rest e = ap (λ (b : Bool). cond b rest (scanned_in (watch_of g p cs l) l (instances_in (watch_of g p cs l).trigger (watch_of g p cs l).sign hs) rest)) idle
  where
    idle : is_idle (watch_of g p cs l) ≡ true
    idle = rw (eq-eqb (g.required l) 1 e)

never_is : (b : Breach) → is_never b ≡ true → b ≡ Never
never_is Never e = refl
never_is Always e = absurd (false≢true e)
never_is (Sometimes k) e = absurd (false≢true e)

-- a line that no instance can break
idle_line : (w : Watch) (l : ℕ) (is : List Instance) (rest : Outcome) → is_idle w ≡ true → scanned_in w l is rest ≡ rest
unfolding scanned_in
idle_line w l [] rest e = refl
idle_line w l (i ∷ is) rest e =
    ap (λ (f : Outcome). first_found f (scanned_in w l is rest)) (go (eqb i.seen 0)) ∙ idle_line w l is rest e
  where
    go : (b : Bool) → report_of (cond b w.absent w.present) (place_in i.trigger i.seen) l ≡ Ok tt
    go true = ap (λ (x : Breach). report_of x (place_in i.trigger i.seen) l) (never_is w.absent (right (is_never w.present) (is_never w.absent) e))
    go false = ap (λ (x : Breach). report_of x (place_in i.trigger i.seen) l) (never_is w.present (left (is_never w.present) (is_never w.absent) e))

scanned_line_lem : (w : Watch) (l : ℕ) (hs : List ℕ) (rest : Outcome) → scanned_line w l hs rest ≡ scanned_in w l (instances_in w.trigger w.sign hs) rest
scanned_line_lem w l hs rest = go (is_idle w) refl
  where
    go : (b : Bool) → is_idle w ≡ b
        → cond b rest (scanned_in w l (instances_in w.trigger w.sign hs) rest) ≡ scanned_in w l (instances_in w.trigger w.sign hs) rest
    go true e = sym (idle_line w l (instances_in w.trigger w.sign hs) rest e)
    go false e = refl

-- ---- all lines

module _ (book : List ℕ) (good : GoodBook book) (p : ℕ) (known : p < (guide_of book).identifiers) (cs hs : List ℕ) (placed : Placed (plan_in book) hs) where
  abbrev ps : List ℕ
  ps = parents_of placed.tree

  -- the parents of the tree, in closed form
  in_closed_form : closed_parents (plan_in book) hs ≡ ps
  in_closed_form = sym (tree_closed (plan_in book) (structured book good) hs placed) ∙ tree (plan_in book) (structured book good) hs placed

  found_instances : (l : ℕ) → 1 ≤ l → l ≤ (guide_of book).lines
      → map (λ t. instance_of t (first_of (plan_in book) l t hs ps)) (instances_of (owner (plan_in book) l) hs)
      ≡ instances_in (opening (owner (plan_in book) l)) (shown_by (plan_in book) l) hs
  found_instances l from to =
      subst (λ (qs : List ℕ). map (λ t. instance_of t (first_of (plan_in book) l t hs qs)) (instances_of (owner (plan_in book) l) hs)
      ≡ instances_in (opening (owner (plan_in book) l)) (shown_by (plan_in book) l) hs) in_closed_form
      (line_instances (plan_in book) (structured book good) hs (placed_homed (plan_in book) hs placed) l from to)

  one_line : (l : ℕ) → 1 ≤ l → l ≤ (guide_of book).lines → (es : List Entry)
      → found_among cs (entries_in (guide_of book) p l hs ps (instances_of (owner (plan_in book) l) hs) ++ es) ≡ scanned_line (watch_of (guide_of book) p cs l) l hs (found_among cs es)
  one_line l from to es = go (eqb ((guide_of book).required l) 1) refl
    where
      go : (t : Bool) → eqb ((guide_of book).required l) 1 ≡ t
          → found_among cs (entries_in (guide_of book) p l hs ps (instances_of (owner (plan_in book) l) hs) ++ es) ≡ scanned_line (watch_of (guide_of book) p cs l) l hs (found_among cs es)
      go true e =
          required_found (guide_of book) p cs l hs ps (instances_of (owner (plan_in book) l) hs) es (required_row book good p l known from to e)
          (required_present (plan_in book) (structured book good) hs placed l from to e)
          ∙ sym (required_idle (guide_of book) p cs l hs (found_among cs es) (eqb-true ((guide_of book).required l) 1 e))
      go false e =
          line_found (guide_of book) p cs l (guide_of book).conditions (row_rises book good p l known from to) (eqb-false ((guide_of book).required l) 1 e) hs ps
          (instances_of (owner (plan_in book) l) hs) es
          ∙ ap (λ (is : List Instance). scanned_in (watch_of (guide_of book) p cs l) l is (found_among cs es)) (found_instances l from to)
          ∙ sym (scanned_line_lem (watch_of (guide_of book) p cs l) l hs (found_among cs es))

  lines_found : (l count : ℕ) → 1 ≤ l → l + count ≤ suc (guide_of book).lines
      → found_among cs (entries_from (guide_of book) p hs ps l count) ≡ scanned_from (guide_of book) p cs hs l count
  unfolding entries_from scanned_from found_among
  lines_found l zero from to = refl
  lines_found l (suc count) from to =
      one_line l from (omega arith) (entries_from (guide_of book) p hs ps (suc l) count)
      ∙ ap (scanned_line (watch_of (guide_of book) p cs l) l hs) (lines_found (suc l) count (omega arith) (omega arith))

-- ---- the law, for the tree's parents, and for those that are written

module _ (book : List ℕ) (good : GoodBook book) (p : ℕ) (known : p < (guide_of book).identifiers) (hs : List ℕ) (placed : Placed (plan_in book) hs) (cs : List ℕ) where
  pub scanned_tree : scanned_row (guide_of book) p cs hs ≡ first_row (guide_of book) p cs hs (parents_of placed.tree)
  scanned_tree = sym (lines_found book good p known cs hs placed 1 (guide_of book).lines (omega arith) (omega arith) ∙ rows_of_some (guide_of book) p cs hs known)

  pub scanned : scanned_row (guide_of book) p cs hs ≡ first_row (guide_of book) p cs hs (noted_parents (plan_in book) hs)
  scanned = scanned_tree ∙ ap (first_row (guide_of book) p cs hs) (sym (tree (plan_in book) (structured book good) hs placed))
