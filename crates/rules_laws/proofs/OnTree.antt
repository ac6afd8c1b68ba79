-- Law rules_on_tree: in a good book, the rules hold on a placement tree exactly if none of the rows that the lists of homes and parents
-- give is broken. Line by line: the instances of its parent in the tree are those of the lists, and it is present in the same.
use Prim.Native.Nat.{ℕ, zero, suc, ◌+◌, ◌≤◌, ◌<◌}
use native.Mathlib.Omega.{arith}
use mathlib.Core.Path.{◌≡◌, refl, sym, ap, ◌∙◌, subst}
use mathlib.Core.Logic.{inl, inr, ◌↔◌}
use mathlib.Core.List.{List, [], ◌∷◌, ◌++◌}
use mathlib.Core.Bool.{Bool, true, false, not, cond, false≢true}
use borrow.Author.Tests.{ne_eqb}
use Rattle.reading.specs.meaning.Service.{All}
use Rattle.guide.specs.meaning.Guide.{Guide, guide_of}
use Rattle.book.specs.meaning.GoodBook.{GoodBook}
use Rattle.guide.specs.meaning.Plan.{Plan, plan_of, plan_in, Of, is_trigger}
use Rattle.placing.specs.meaning.Placement.{Contents, nothing, segment, instance, homes_of, size, Runs, Placed, parents_of}
use Rattle.guide.specs.meaning.Tree.{owner}
use Rattle.placing_laws.proofs.Structured.{Structured, structured}
use Rattle.placing_laws.proofs.Trees.{Same, it, other, same}
use Rattle.placing_laws.proofs.Walks.{of_no_trigger}
use Rattle.placing_laws.proofs.Closed.{owner_of}
use Rattle.rules.specs.meaning.Conditions.{Assignment}
use Rattle.rules.specs.meaning.Instances.{instances_of, shown_by, first_in, first_of, is_present}
use Rattle.rules.specs.meaning.Entries.{Entry, entries_in, entries_from, entries_of}
use Rattle.rules_laws.specs.meaning.OnTree.{has_line, KeepsRow, LinesKeep, InstancesKeep, RulesHold}
use Rattle.rules_laws.proofs.Lines.{trigger_owner, trigger_group, of_owner, group_owner}
use Rattle.rules_laws.proofs.InTree.{Inside, InTree, inside_runs, trigger_in, of_instances, each_instance, present_in}
use Rattle.reading_laws.proofs.Lists.{all_append}

-- ---- the entries, line by line

all_parts : (P : Entry → Type 0) (xs ys : List Entry) → All P (xs ++ ys) → All P xs × All P ys
all_parts P [] ys h = (tt, h)
all_parts P (x ∷ xs) ys h = let r = all_parts P xs ys h.1 in ((h.0, r.0), r.1)

module _ (g : Guide) (p : ℕ) (a : Assignment) (hs ps : List ℕ) where
  abbrev Kept : Entry → Type 0
  Kept e = e.is_broken_by a ≡ false

  -- line l keeps its row in instance t
  abbrev KeptAt : ℕ → ℕ → Type 0
  KeptAt l t = KeepsRow g p a l (is_present (first_of (plan_of g) l t hs ps))

  abbrev LineKept : ℕ → Type 0
  LineKept l = All (KeptAt l) (instances_of (owner (plan_of g) l) hs)

  entries_in_lem : (l : ℕ) (ts : List ℕ) → All (KeptAt l) ts → All Kept (entries_in g p l hs ps ts)
  unfolding entries_in
  entries_in_lem l [] h = tt
  entries_in_lem l (t ∷ ts) h = (h.0, entries_in_lem l ts h.1)

  in_entries : (l : ℕ) (ts : List ℕ) → All Kept (entries_in g p l hs ps ts) → All (KeptAt l) ts
  unfolding entries_in
  in_entries l [] h = tt
  in_entries l (t ∷ ts) h = (h.0, in_entries l ts h.1)

  entries_from_lem : (l count : ℕ) → ((m : ℕ) → l ≤ m → m < l + count → LineKept m) → All Kept (entries_from g p hs ps l count)
  unfolding entries_from
  entries_from_lem l zero h = tt
  entries_from_lem l (suc count) h =
      all_append Kept (entries_in g p l hs ps (instances_of (owner (plan_of g) l) hs)) (entries_from g p hs ps (suc l) count)
      (entries_in_lem l (instances_of (owner (plan_of g) l) hs) (h l (omega arith) (omega arith)))
      (entries_from_lem (suc l) count (λ m i j. h m (omega arith) (omega arith)))

  from_entries : (l count : ℕ) → All Kept (entries_from g p hs ps l count) → (m : ℕ) → l ≤ m → m < l + count → LineKept m
  unfolding entries_from
  from_entries l zero h m i j = absurd (omega arith)
  from_entries l (suc count) h m i j = go (same l m) (all_parts Kept (entries_in g p l hs ps (instances_of (owner (plan_of g) l) hs)) (entries_from g p hs ps (suc l) count) h) (from_entries (suc l) count)
    where
      go : Same l m → All Kept (entries_in g p l hs ps (instances_of (owner (plan_of g) l) hs)) × All Kept (entries_from g p hs ps (suc l) count)
          → (All Kept (entries_from g p hs ps (suc l) count) → (m : ℕ) → suc l ≤ m → m < suc l + count → LineKept m) → LineKept m
      go (it e f) r ih = subst LineKept e (in_entries l (instances_of (owner (plan_of g) l) hs) r.0)
      go (other e f) r ih = ih r.1 m (omega arith) (omega arith)

-- ---- the tree, instance by instance

module _ (g : Guide) (p : ℕ) (a : Assignment) where
  abbrev InstanceKeeps : ℕ → Contents → Type 0
  InstanceKeeps o x = KeepsRow g p a (suc o) true × LinesKeep g p a o x

  of_inside : (ks : Contents) → InstancesKeep g p a ks → (k o t : ℕ) (x : Contents) → Inside k ks o t x → InstanceKeeps o x
  of_inside nothing h k o t x i = absurd i
  of_inside (segment ks l) h k o t x i = of_inside ks h k o t x i
  of_inside (instance ks m inner) h k o t x (inl i) = of_inside ks h.0 k o t x i
  of_inside (instance ks m inner) h k o t x (inr (inl e)) =
      subst (λ (y : Contents). InstanceKeeps o y) e.2 (subst (λ (n : ℕ). InstanceKeeps n inner) e.0 (h.1, h.2))
  of_inside (instance ks m inner) h k o t x (inr (inr i)) = of_inside inner h.3 (suc (k + size ks)) o t x i

  each_inside : (ks : Contents) (k : ℕ) → ((o t : ℕ) (x : Contents) → Inside k ks o t x → InstanceKeeps o x) → InstancesKeep g p a ks
  each_inside nothing k f = tt
  each_inside (segment ks l) k f = each_inside ks k f
  each_inside (instance ks m inner) k f =
      let h = f m (suc (k + size ks)) inner (inr (inl (refl, refl, refl))) in
      (each_inside ks k (λ o t x i. f o t x (inl i)), h.0, h.1, each_inside inner (suc (k + size ks)) (λ o t x i. f o t x (inr (inr i))))

-- ---- one line in one instance

module _ (g : Guide) (st : Structured (plan_of g)) (p : ℕ) (a : Assignment) (tree : Contents) (runs : Runs (plan_of g) 0 tree) where
  abbrev b : Plan
  b = plan_of g

  abbrev hs : List ℕ
  hs = homes_of tree

  abbrev ps : List ℕ
  ps = parents_of tree

  at_line : (l : ℕ) → 1 ≤ l → is_trigger b l ≡ false → (o t : ℕ) (x : Contents) → InTree tree o t x → is_present (first_of b l t hs ps) ≡ has_line l x
  at_line l i e o t x n =
      ap (λ (c : Bool). is_present (cond c t (first_in (shown_by b l) t 1 hs ps))) e ∙ present_in b st tree runs l i e o t x n

  at_trigger : (l : ℕ) → is_trigger b l ≡ true → (o t : ℕ) (x : Contents) → 0 < o → InTree tree o t x → is_present (first_of b l t hs ps) ≡ true
  at_trigger l e o t x h n =
      let z = trigger_in tree o t x h n in
      ap (λ (c : Bool). is_present (cond c t (first_in (shown_by b l) t 1 hs ps))) e ∙ ap not (ne_eqb t 0 (λ q. omega arith))

  -- ---- from the tree to the lists

  module _ (hold : RulesHold g p a tree) where
    further_kept : (l : ℕ) → (o t : ℕ) (x : Contents) → InTree tree o t x → Of b o l → KeepsRow g p a l (has_line l x)
    further_kept l zero t x i of = subst (λ (y : Contents). KeepsRow g p a l (has_line l y)) i.1 (hold.0 l of)
    further_kept l (suc o) t x i of = (of_inside g p a tree hold.1 0 (suc o) t x i).1 l of

    trigger_kept : (l : ℕ) → l ≤ b.lines → is_trigger b l ≡ true → (t : ℕ) (x : Contents) → InTree tree (owner b l) t x → KeepsRow g p a l true
    trigger_kept zero j e t x i = absurd (false≢true e)
    trigger_kept (suc zero) j e t x i = absurd (false≢true e)
    trigger_kept (suc (suc o)) j e t x i =
        (of_inside g p a tree hold.1 0 (suc o) t x (subst (λ (n : ℕ). InTree tree n t x) (trigger_group b st o j e) i)).0

    line_kept : (l : ℕ) → 1 ≤ l → l ≤ b.lines → LineKept g p a hs ps l
    line_kept l i j = each_instance b st tree runs (KeptAt g p a hs ps l) (owner b l) (group_owner b st l i j) (λ t x n. go t x n (is_trigger b l) refl)
      where
        go : (t : ℕ) (x : Contents) → InTree tree (owner b l) t x → (c : Bool) → is_trigger b l ≡ c → KeptAt g p a hs ps l t
        go t x n true e =
            subst (λ (v : Bool). KeepsRow g p a l v) (sym (at_trigger l e (owner b l) t x (trigger_owner b st l i j e) n)) (trigger_kept l j e t x n)
        go t x n false e =
            subst (λ (v : Bool). KeepsRow g p a l v) (sym (at_line l i e (owner b l) t x n)) (further_kept l (owner b l) t x n (of_owner b st l i j e))

  -- ---- and back

  module _ (kept : (l : ℕ) → 1 ≤ l → l ≤ b.lines → LineKept g p a hs ps l) where
    kept_at : (l o : ℕ) → 1 ≤ l → l ≤ b.lines → owner b l ≡ o → (t : ℕ) (x : Contents) → InTree tree o t x → KeptAt g p a hs ps l t
    kept_at l o i j e t x n =
        of_instances b st tree runs (KeptAt g p a hs ps l) o t x n (subst (λ (q : ℕ). All (KeptAt g p a hs ps l) (instances_of q hs)) e (kept l i j))

    lines_keep : (o t : ℕ) (x : Contents) → InTree tree o t x → LinesKeep g p a o x
    lines_keep o t x n l of =
        let i : 1 ≤ l = (let z = of.after in omega arith) in
        subst (λ (v : Bool). KeepsRow g p a l v) (at_line l i (of_no_trigger b st o l of) o t x n)
        (kept_at l o i of.within (owner_of b st o l of) t x n)

    instance_keeps : (o t : ℕ) (x : Contents) → Inside 0 tree o t x → InstanceKeeps g p a o x
    instance_keeps zero t x n = let z = (inside_runs b 0 tree runs 0 0 t x n).1.after in absurd (omega arith)
    instance_keeps (suc o) t x n =
        let r = inside_runs b 0 tree runs 0 (suc o) t x n in
        let w = (st.trigger (suc o) (omega arith) r.1.within r.2).within in (
          subst (λ (v : Bool). KeepsRow g p a (suc (suc o)) v) (at_trigger (suc (suc o)) r.2 (suc o) t x (omega arith) n)
              (kept_at (suc (suc o)) (suc o) (omega arith) w (trigger_group b st o w r.2) t x n),
          lines_keep (suc o) t x n,
        )

    rules_hold : RulesHold g p a tree
    rules_hold = (lines_keep 0 0 tree (refl, refl), each_inside g p a tree 0 instance_keeps)

-- ---- the law

module _ (book : List ℕ) (good : GoodBook book) (p : ℕ) (a : Assignment) (hs : List ℕ) (placed : Placed (plan_in book) hs) where
  pub rules_on_tree : RulesHold (guide_of book) p a placed.tree
      ↔ All (λ e. e.is_broken_by a ≡ false) (entries_of (guide_of book) p hs (parents_of placed.tree))
  rules_on_tree =
      subst (λ (xs : List ℕ). RulesHold (guide_of book) p a placed.tree ↔ All (λ e. e.is_broken_by a ≡ false) (entries_of (guide_of book) p xs (parents_of placed.tree)))
      placed.same (
        λ h. entries_from_lem (guide_of book) p a (homes_of placed.tree) (parents_of placed.tree) 1 (guide_of book).lines
            (λ l i j. line_kept (guide_of book) (structured book good) p a placed.tree placed.runs h l i (omega arith)),
        λ h. rules_hold (guide_of book) (structured book good) p a placed.tree placed.runs
            (λ l i j. from_entries (guide_of book) p a (homes_of placed.tree) (parents_of placed.tree) 1 (guide_of book).lines h l i (omega arith)),
      )
