-- Laws begins and placement: the walk is alive after k homes exactly when some continuation is allowed, and it ends at the last line
-- exactly when the homes are allowed.
use Prim.Native.Nat.{ℕ, zero, suc, ◌+◌, ◌≤◌, ◌<◌}
use native.Mathlib.Omega.{arith}
use mathlib.Core.Path.{◌≡◌, refl, sym, ap, ◌∙◌, subst}
use mathlib.Core.List.{List, [], ◌∷◌, ◌++◌, append_assoc, append-nil}
use mathlib.Core.Bool.{Bool, true, false, true≢false, false≢true, cond}
use mathlib.Core.Logic.{◌↔◌}
use lib.Dec.{eqb, ltb}
use borrow.Author.Tests.{eq-eqb, eqb-true, eqb-false, ltb-true, ltb-false}
use Rattle.guide.proofs.Depths.{line_deep}
use Rattle.placing.specs.declared.walk.Level.{Level}
use Rattle.guide.specs.meaning.Plan.{Plan, deep, opening, Of}
use Rattle.placing_laws.proofs.Structured.{Structured}
use Rattle.placing.specs.meaning.Placement.{Contents, nothing, segment, instance, homes, count, Placed, Allowed, Begins}
use Rattle.placing.specs.method.Walking.{start, walked, advanced, is_alive}
use Rattle.placing_laws.specs.laws.AtEnd.{is_at_end}
use Rattle.placing_laws.proofs.Trees.{homes_append, one_here, Same, it, other, same, Next, Full, Good, Open, good_open, valid_good, good_valid, good_runs}
use Rattle.placing_laws.proofs.Walks.{opening_le, last_line, levels, Parent, last_of, depth_of, parent_of, walk_sound, walk_good, walked_nil, dead}

module _ (b : Plan) (s : Structured b) where
  -- an explicit completion of what an instance of p holds
  record Completed (p : ℕ) (ks : Contents) : Type 0 where
    tree : Contents
    good : Good b p tree
    full : Full b p tree
    more : List ℕ
    same : (rest : List ℕ) → homes tree rest ≡ homes ks (more ++ rest)

  -- all of p's lines before x are settled
  record Settled (p : ℕ) (ks : Contents) (x : ℕ) : Type 0 where
    good : Good b p ks
    after : opening p < x
    inside : (y : ℕ) → p < y → y < x → deep b p < deep b y
    upto : (m : ℕ) → 0 < count m ks → m < x
    done : (l : ℕ) → Of b p l → b.required l ≡ true → l < x → 0 < count l ks

  -- nothing is required from x on
  ended : (p : ℕ) (ks : Contents) (x : ℕ) → Settled p ks x → ((l : ℕ) → Of b p l → x ≤ l → ⊥) → Completed p ks
  ended p ks x e h =
      record {
        tree = ks;
        good = e.good;
        full = λ l o r. go l o r (ltb l x) refl;
        more = [];
        same = λ rest. refl;
      }
    where
      go : (l : ℕ) → Of b p l → b.required l ≡ true → (v : Bool) → ltb l x ≡ v → 0 < count l ks
      go l o r true k = e.done l o r (ltb-true l x k)
      go l o r false k = absurd (h l o (ltb-false l x k))

  -- line x is one of p's
  this_of : (p : ℕ) (ks : Contents) (x : ℕ) → Settled p ks x → x ≤ b.lines → b.depth x ≡ deep b p → Of b p x
  this_of p ks x e w d = record { after = e.after; within = w; deeper = line_deep b x (let a = e.after in omega arith) ∙ ap suc d; inside = e.inside }

  next_this : (p : ℕ) (ks : Contents) (x : ℕ) → Settled p ks x → Of b p x → Next b p ks x
  next_this p ks x e o =
      record {
        of = o;
        upto = λ m h. let u = e.upto m h in omega arith;
        room = let z = s.room x (let a = o.after in omega arith) o.within in let u : count x ks ≡ 0 = zero-here (count x ks) (λ h. let i = e.upto x h in omega arith) in omega arith;
        done = e.done;
      }
    where
      zero-here : (n : ℕ) → (0 < n → ⊥) → n ≡ 0
      zero-here n h = omega arith

  -- settled one line further
  further : (p : ℕ) (ks us : Contents) (x : ℕ) → Settled p ks x → deep b p ≤ b.depth x → Good b p us → ((m : ℕ) → 0 < count m us → m < suc x)
      → ((l : ℕ) → count l ks ≤ count l us) → (Of b p x → b.required x ≡ true → 0 < count x us) → Settled p us (suc x)
  further p ks us x e d g u le r =
      record {
        good = g;
        after = let a = e.after in omega arith;
        inside = λ y i j. go y i j (same y x);
        upto = u;
        done = λ l o q j. on l o q j (same l x);
      }
    where
      go : (y : ℕ) → p < y → y < suc x → Same y x → deep b p < deep b y
      go y i j (it h f) = subst (λ (z : ℕ). deep b p < deep b z) (sym h) (let k = line_deep b x (let a = e.after in omega arith) in omega arith)
      go y i j (other h f) = e.inside y i (omega arith)

      on : (l : ℕ) → Of b p l → b.required l ≡ true → l < suc x → Same l x → 0 < count l us
      on l o q j (it h f) = subst (λ (z : ℕ). 0 < count z us) (sym h) (r (subst (λ (z : ℕ). Of b p z) h o) (subst (λ (z : ℕ). b.required z ≡ true) h q))
      on l o q j (other h f) = let k = le l in let z = e.done l o q (omega arith) in omega arith

  counted_up : (ks : Contents) (x m : ℕ) → ((m : ℕ) → 0 < count m ks → m < x) → 0 < cond (eqb x m) 1 0 + count m ks → m < suc x
  counted_up ks x m u h = go (same x m)
    where
      go : Same x m → m < suc x
      go (it e f) = omega arith
      go (other e f) = let k = f (count m ks) in let z = u m (omega arith) in omega arith

  further_segment : (p : ℕ) (ks : Contents) (x : ℕ) → Settled p ks x → Of b p x → b.group x ≡ false → Settled p (segment ks x) (suc x)
  unfolding count
  further_segment p ks x e o k =
      further p ks (segment ks x) x e (let d = depth_of b s p x o in omega arith) (e.good, k, next_this p ks x e o) (λ m. counted_up ks x m e.upto)
      (λ l. omega arith) (λ _ _. let h = one_here x x (count x ks) refl in omega arith)

  further_instance : (p : ℕ) (ks : Contents) (x : ℕ) (inner : Completed x nothing) → Settled p ks x → Of b p x → b.group x ≡ true → Settled p (instance ks x inner.tree) (suc x)
  unfolding count
  further_instance p ks x i e o k =
      further p ks (instance ks x i.tree) x e (let d = depth_of b s p x o in omega arith) (e.good, k, next_this p ks x e o, i.good, i.full) (λ m. counted_up ks x m e.upto)
      (λ l. omega arith) (λ _ _. let h = one_here x x (count x ks) refl in omega arith)

  -- a new instance is settled after its trigger
  fresh : (g : ℕ) → Parent b s g → Settled g nothing (suc (opening g))
  unfolding count
  fresh g q =
      let a = last_of b s g nothing q tt in
      record {
        good = tt;
        after = omega arith;
        inside = λ y i j. a.inside y i (omega arith);
        upto = λ m h. absurd (omega arith);
        done = λ l o r i. absurd (let z = o.after in omega arith);
      }

  after_segment : (p : ℕ) (ks : Contents) (x : ℕ) → Completed p (segment ks x) → Completed p ks
  unfolding homes
  after_segment p ks x c = record { tree = c.tree; good = c.good; full = c.full; more = x ∷ c.more; same = λ rest. c.same rest }

  after_instance : (p : ℕ) (ks : Contents) (x : ℕ) (i : Completed x nothing) → Completed p (instance ks x i.tree) → Completed p ks
  unfolding homes
  after_instance p ks x i c =
      record {
        tree = c.tree;
        good = c.good;
        full = c.full;
        more = suc x ∷ (i.more ++ c.more);
        same = λ rest. c.same rest ∙ ap (λ (y : List ℕ). homes ks (suc x ∷ y)) (i.same (c.more ++ rest) ∙ sym (append_assoc i.more c.more rest));
      }

  -- line x, with n more lines at most
  fill : (n p : ℕ) (ks : Contents) (x : ℕ) → Parent b s p → Settled p ks x → b.lines < x + n → Completed p ks
  fill zero p ks x q e w = ended p ks x e (λ l o i. let z = o.within in omega arith)
  fill (suc n) p ks x q e w =
      go (ltb b.lines x) refl (ltb (b.depth x) (deep b p)) refl (eqb (b.depth x) (deep b p)) refl (b.required x) refl (b.group x) refl
      (λ us f. fill n p us (suc x) q f (omega arith)) (λ o k. inside_of (λ z f. fill n x nothing (suc (opening x)) z f) o k)
    where
      inside_of : ((z : Parent b s x) → Settled x nothing (suc (opening x)) → b.lines < suc (opening x) + n → Completed x nothing) → Of b p x → b.group x ≡ true → Completed x nothing
      inside_of ih o k = ih (parent_of b s p x o k) (fresh x (parent_of b s p x o k)) (let z = opening_le b s x in omega arith)

      go : (v : Bool) → ltb b.lines x ≡ v → (u : Bool) → ltb (b.depth x) (deep b p) ≡ u → (d : Bool) → eqb (b.depth x) (deep b p) ≡ d
          → (r : Bool) → b.required x ≡ r → (g : Bool) → b.group x ≡ g → ((us : Contents) → Settled p us (suc x) → Completed p us) → (Of b p x → b.group x ≡ true → Completed x nothing) → Completed p ks
      go true hv u hu d hd r hr g hg ih inner = ended p ks x e (λ l o i. let z = o.within in let y = ltb-true b.lines x hv in omega arith)
      go false hv true hu d hd r hr g hg ih inner =
          ended p ks x e (λ l o i. shallow l o i (same x l))
        where
          shallow : (l : ℕ) → Of b p l → x ≤ l → Same x l → ⊥
          shallow l o i (it h f) = let z = ltb-true (b.depth x) (deep b p) hu in let y = depth_of b s p l o in let k = ap b.depth h in omega arith
          shallow l o i (other h f) =
              let z = ltb-true (b.depth x) (deep b p) hu in
              let a = e.after in
              let y = o.inside x (let v = opening_le b s p in omega arith) (omega arith) in
              let k = line_deep b x (omega arith) in
              omega arith
      go false hv false hu true hd true hr false hg ih inner =
          let o = this_of p ks x e (ltb-false b.lines x hv) (eqb-true (b.depth x) (deep b p) hd) in
          after_segment p ks x (ih (segment ks x) (further_segment p ks x e o hg))
      go false hv false hu true hd true hr true hg ih inner =
          let o = this_of p ks x e (ltb-false b.lines x hv) (eqb-true (b.depth x) (deep b p) hd) in
          after_instance p ks x (inner o hg) (ih (instance ks x (inner o hg).tree) (further_instance p ks x (inner o hg) e o hg))
      go false hv false hu true hd false hr g hg ih inner =
          ih ks (further p ks ks x e (ltb-false (b.depth x) (deep b p) hu) e.good (λ m h. let z = e.upto m h in omega arith) (λ l. omega arith) (λ o r. absurd (true≢false (sym r ∙ hr))))
      go false hv false hu false hd r hr g hg ih inner =
          ih ks (further p ks ks x e (ltb-false (b.depth x) (deep b p) hu) e.good (λ m h. let z = e.upto m h in omega arith) (λ l. omega arith)
          (λ o r. absurd (eqb-false (b.depth x) (deep b p) hd (depth_of b s p x o))))

  -- along the open instances
  settled_last : (p : ℕ) (ks : Contents) → Parent b s p → Good b p ks → Settled p ks (suc (last_line p ks))
  settled_last p ks q g =
      let a = last_of b s p ks q (good_open b p ks g) in
      record {
        good = g;
        after = let f = a.from in omega arith;
        inside = λ y i j. a.inside y i (omega arith);
        upto = λ m h. let u = a.upto m h in omega arith;
        done = λ l o r i. a.done l o r (omega arith);
      }

  finish : (p : ℕ) (ks : Contents) → Parent b s p → Good b p ks → Completed p ks
  finish p ks q g = fill (suc b.lines) p ks (suc (last_line p ks)) q (settled_last p ks q g) (omega arith)

  complete : (p : ℕ) (ks : Contents) → Parent b s p → Open b p ks → Completed p ks
  unfolding homes
  complete p nothing q o = finish p nothing q tt
  complete p (segment ks l) q o = finish p (segment ks l) q o
  complete p (instance ks g inner) q o = go (complete g inner (parent_of b s p g o.2.of o.1) o.3)
    where
      go : Completed g inner → Completed p (instance ks g inner)
      go i =
          let c = finish p (instance ks g i.tree) q (o.0, o.1, o.2, i.good, i.full) in
          record {
            tree = c.tree;
            good = c.good;
            full = c.full;
            more = i.more ++ c.more;
            same = λ rest. c.same rest ∙ ap (λ (y : List ℕ). homes ks (suc g ∷ y)) (i.same (c.more ++ rest) ∙ ap (homes inner) (sym (append_assoc i.more c.more rest)));
          }

  homes_none : (rest : List ℕ) → homes nothing rest ≡ rest
  unfolding homes
  homes_none rest = refl

  pub alive_begins : (hs : List ℕ) → is_alive (walked b start hs) ≡ true → Begins b hs
  alive_begins hs h =
      let t = walk_sound b s hs nothing tt h in
      let c = complete 0 t.tree tt t.stands in (
        c.more,
        record {
          tree = c.tree;
          runs = good_runs b 0 c.tree c.good;
          counted = good_valid b c.tree 0 c.good c.full;
          same = c.same [] ∙ t.same (c.more ++ []) ∙ homes_none (hs ++ (c.more ++ [])) ∙ ap (λ (x : List ℕ). hs ++ x) (append-nil c.more);
        },
      )

  pub walked_append : (vs : List Level) (xs ys : List ℕ) → walked b vs (xs ++ ys) ≡ walked b (walked b vs xs) ys
  unfolding walked
  walked_append vs [] ys = refl
  walked_append vs (x ∷ xs) ys = walked_append (advanced b vs x) xs ys

  -- what is alive at the end was alive before
  pub alive_before : (vs : List Level) (ys : List ℕ) → is_alive (walked b vs ys) ≡ true → is_alive vs ≡ true
  alive_before [] ys h = absurd (false≢true (sym (ap is_alive (dead b s ys)) ∙ h))
  alive_before (v ∷ vs) ys h = refl

  -- the walk through an allowed sequence ends with the levels of its tree
  walk_placed : (hs : List ℕ) (t : Placed b hs) → walked b start hs ≡ levels 0 t.tree
  walk_placed hs t =
      let g = valid_good b t.tree 0 t.runs t.counted in
      ap (walked b start) (sym t.same) ∙ walk_good b s 0 t.tree g.0 tt [] refl [] ∙ walked_nil b s (levels 0 t.tree)

  pub begins_alive : (hs : List ℕ) → Begins b hs → is_alive (walked b start hs) ≡ true
  begins_alive hs t =
      alive_before (walked b start hs) t.0 (ap is_alive (sym (walked_append start hs t.0) ∙ walk_placed (hs ++ t.0) t.1))

  -- the last line is one of the message's
  pub last_line_lem : Of b 0 b.lines
  last_line_lem =
      let w = s.long in
      record {
        after = omega arith;
        within = omega arith;
        deeper = line_deep b b.lines (omega arith) ∙ ap suc s.last.root;
        inside = λ x i j. let k = line_deep b x (omega arith) in omega arith;
      }

  end_tree : (T : Contents) → Open b 0 T → is_at_end b (levels 0 T) ≡ true → Good b 0 T × Full b 0 T
  unfolding count
  end_tree nothing o h = absurd (let e = eqb-true 0 b.lines h in let w = s.long in omega arith)
  end_tree (segment ks l) o h =
      let e = eqb-true l b.lines h in
      let a = last_of b s 0 (segment ks l) tt o in
      (o, λ m q r. a.done m q r (let w = q.within in omega arith))
  end_tree (instance ks g inner) o h = absurd (false≢true h)

  end_alive : (vs : List Level) → is_at_end b vs ≡ true → is_alive vs ≡ true
  end_alive [] h = h
  end_alive (v ∷ []) h = refl
  end_alive (v ∷ w ∷ vs) h = refl

  pub end_allowed : (hs : List ℕ) → is_at_end b (walked b start hs) ≡ true → Allowed b hs
  end_allowed hs h =
      let t = walk_sound b s hs nothing tt (end_alive (walked b start hs) h) in
      let g = end_tree t.tree t.stands (ap (is_at_end b) t.stack ∙ h) in
      record {
        tree = t.tree;
        runs = good_runs b 0 t.tree g.0;
        counted = good_valid b t.tree 0 g.0 g.1;
        same = t.same [] ∙ homes_none (hs ++ []) ∙ append-nil hs;
      }

  ends_last : (T : Contents) → Good b 0 T → Full b 0 T → is_at_end b (levels 0 T) ≡ true
  unfolding count
  ends_last nothing g f = absurd (let h = f b.lines last_line_lem s.last.required in omega arith)
  ends_last (segment ks l) g f =
      let h = f b.lines last_line_lem s.last.required in
      let u = (last_of b s 0 (segment ks l) tt g).upto b.lines h in
      let w = g.2.of.within in
      eq-eqb l b.lines (omega arith)
  ends_last (instance ks x inner) g f =
      let h = f b.lines last_line_lem s.last.required in
      let u = (last_of b s 0 (instance ks x inner) tt (good_open b 0 (instance ks x inner) g)).upto b.lines h in
      let w = g.2.of.within in
      let e : x ≡ b.lines = omega arith in
      absurd (true≢false (sym g.1 ∙ ap b.group e ∙ s.last.segment))

  pub allowed_end : (hs : List ℕ) → Allowed b hs → is_at_end b (walked b start hs) ≡ true
  allowed_end hs t =
      let g = valid_good b t.tree 0 t.runs t.counted in
      ap (is_at_end b) (walk_placed hs t) ∙ ends_last t.tree g.0 g.1

  -- law begins
  pub begins : (hs : List ℕ) → (is_alive (walked b start hs) ≡ true) ↔ Begins b hs
  begins hs = (alive_begins hs, begins_alive hs)

  -- law placement
  pub placement : (hs : List ℕ) → (is_at_end b (walked b start hs) ≡ true) ↔ Allowed b hs
  placement hs = (end_allowed hs, allowed_end hs)

  -- an allowed sequence ends on the last line
  pub allowed_last : (hs : List ℕ) → Allowed b hs → (front : List ℕ) × (hs ≡ front ++ (b.lines ∷ []))
  unfolding homes
  allowed_last hs t =
      let g = valid_good b t.tree 0 t.runs t.counted in go t.tree (ends_last t.tree g.0 g.1) t.same
    where
      go : (T : Contents) → is_at_end b (levels 0 T) ≡ true → homes T [] ≡ hs → (front : List ℕ) × (hs ≡ front ++ (b.lines ∷ []))
      go nothing h e = absurd (let z = eqb-true 0 b.lines h in let w = s.long in omega arith)
      go (segment ks l) h e = (homes ks [], sym e ∙ homes_append ks [] (l ∷ []) ∙ ap (λ (x : ℕ). homes ks [] ++ (x ∷ [])) (eqb-true l b.lines h))
      go (instance ks x inner) h e = absurd (false≢true h)
