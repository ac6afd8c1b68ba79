-- The walk and the placement trees belong together.
use Prim.Native.Nat.{ℕ, zero, suc, ◌+◌, ◌-◌, ◌≤◌, ◌<◌, pred}
use native.Mathlib.Omega.{arith}
use mathlib.Core.Path.{◌≡◌, refl, sym, ap, ◌∙◌, subst}
use mathlib.Core.List.{List, [], ◌∷◌, ◌++◌, append_assoc}
use mathlib.Core.Bool.{Bool, true, false, true≢false, false≢true, cond, not, ◌&&◌, and-false}
use lib.Dec.{eqb, ltb, leb}
use lib.ListN.{length, get_or, take, drop, length-append}
use borrow.Author.Tests.{eqb-true, eqb-false, ltb-true, lt-ltb, le-ltb, leb-true, le-leb}
use Rattle.placing.specs.declared.walk.Level.{Level}
use Rattle.guide.specs.meaning.Plan.{Plan, deep, opening, Of, is_trigger}
use Rattle.guide.specs.method.Targets.{target}
use Rattle.guide.proofs.Depths.{line_deep}
use Rattle.placing_laws.proofs.Structured.{Trigger, Structured}
use Rattle.placing.specs.meaning.Placement.{Contents, nothing, segment, instance, homes, count, UpTo}
use Rattle.placing.specs.method.Walking.{level, is_placeable, is_clear, is_passed, can_close_all, can_move, raised, admits, entered, stacked, advanced, walked, is_alive, SegmentLine}
use Rattle.placing_laws.proofs.LeavingOut.{clear_none, clear_yes, Skipped, passes_all, passes_yes}
use Rattle.reading.proofs.Booleans.{both, left, right, denied, refuted}
use Rattle.placing_laws.proofs.Trees.{one_here, Same, it, other, same, Next, Full, Good, Open, good_open}

-- the open line and its count, and the levels below it, of what an instance of p holds
abbrev pub last_line : ℕ → Contents → ℕ
last_line p nothing = opening p
last_line p (segment ks l) = l
last_line p (instance ks g inner) = g

abbrev pub last_count : Contents → ℕ
last_count nothing = 1
last_count (segment ks l) = suc (count l ks)
last_count (instance ks g inner) = suc (count g ks)

abbrev pub below : Contents → List Level
below nothing = []
below (segment ks l) = []
below (instance ks g inner) = level (last_line g inner) (last_count inner) ∷ below inner

abbrev pub levels : ℕ → Contents → List Level
levels p ks = level (last_line p ks) (last_count ks) ∷ below ks

zero_of : (n : ℕ) → (0 < n → ⊥) → n ≡ 0
zero_of n h = omega arith

module _ (b : Plan) (s : Structured b) where
  -- p is the message or a group
  abbrev pub Parent : ℕ → Type 0
  Parent zero = Unit {0}
  Parent (suc g) = Trigger b (suc g) × (b.group (suc g) ≡ true)

  -- the last line of p that came, o, c times: where it stands among the lines of p
  pub record Last (p : ℕ) (ks : Contents) (o c : ℕ) : Type 0 where
    pub from : opening p ≤ o
    pub inside : (x : ℕ) → p < x → x ≤ o → deep b p < deep b x
    pub upto : UpTo b ks o
    pub done : (l : ℕ) → Of b p l → b.required l ≡ true → l ≤ o → 0 < count l ks
    pub again : opening p < o → Of b p o × (count o ks ≡ c)
    pub before : (t : ℕ) → UpTo b ks t → opening p < t → o ≤ t

  pub opening_inside : (p : ℕ) → Parent p → (x : ℕ) → p < x → x ≤ opening p → deep b p < deep b x
  opening_inside zero q x i j = absurd (omega arith)
  opening_inside (suc g) q x i j =
      let e : suc (suc g) ≡ x = omega arith in
      subst (λ (y : ℕ). suc (b.depth (suc g)) < deep b y) e (let h = q.0.deeper in omega arith)

  pub opening_le : (p : ℕ) → p ≤ opening p
  opening_le zero = omega arith
  opening_le (suc g) = omega arith

  -- once line o has come
  last_on : (p : ℕ) (ks : Contents) (o : ℕ) (new : ℕ → ℕ) → Next b p ks o → ((l : ℕ) → new l ≡ cond (eqb o l) 1 0 + count l ks)
      → (us : Contents) → ((l : ℕ) → count l us ≡ new l) → Last p us o (suc (count o ks))
  last_on p ks o new n f us g =
      record {
        from = let h = n.of.after in omega arith;
        inside = λ x i j. go x i j (same x o);
        upto = λ m h. up m (let e = g m in let e2 = f m in omega arith) (same o m);
        done = λ l q r h. all l q r h (same o l);
        again = λ h. (n.of, g o ∙ f o ∙ one_here o o (count o ks) refl);
        before = λ t u h. u o (let e = g o in let e2 = f o in let e3 = one_here o o (count o ks) refl in omega arith);
      }
    where
      go : (x : ℕ) → p < x → x ≤ o → Same x o → deep b p < deep b x
      go x i j (it e h) = subst (λ (y : ℕ). deep b p < deep b y) (sym e) (let d = n.of.deeper in omega arith)
      go x i j (other e h) = n.of.inside x i (omega arith)

      up : (m : ℕ) → 0 < cond (eqb o m) 1 0 + count m ks → Same o m → m ≤ o
      up m h (it e k) = omega arith
      up m h (other e k) = n.upto m (let z = k (count m ks) in omega arith)

      all : (l : ℕ) → Of b p l → b.required l ≡ true → l ≤ o → Same o l → 0 < count l us
      all l q r h (it e k) = let z = k (count l ks) in let e1 = g l in let e2 = f l in omega arith
      all l q r h (other e k) = let d = n.done l q r (omega arith) in let e1 = g l in let e2 = f l in let z = k (count l ks) in omega arith

  pub last_of : (p : ℕ) (ks : Contents) → Parent p → Open b p ks → Last p ks (last_line p ks) (last_count ks)
  unfolding count
  last_of p nothing q o =
      record {
        from = omega arith;
        inside = opening_inside p q;
        upto = λ m h. absurd (omega arith);
        done = λ l h r i. absurd (let k = h.after in omega arith);
        again = λ h. absurd (omega arith);
        before = λ t u h. omega arith;
      }
  last_of p (segment ks l) q o = last_on p ks l (λ m. cond (eqb l m) 1 0 + count m ks) o.2 (λ m. refl) (segment ks l) (λ m. refl)
  last_of p (instance ks g inner) q o = last_on p ks g (λ m. cond (eqb g m) 1 0 + count m ks) o.2 (λ m. refl) (instance ks g inner) (λ m. refl)

  pub depth_of : (p l : ℕ) → Of b p l → b.depth l ≡ deep b p
  depth_of p l o = let h = o.deeper in let k = line_deep b l (let a = o.after in omega arith) in omega arith

  -- what one move asks and gives
  record Moved (p : ℕ) (ks : Contents) (o c t : ℕ) : Type 0 where
    next : Next b p ks t
    counts : suc (count t ks) ≡ cond (eqb o t) (suc c) 1

  between_of : (p o t : ℕ) (ks : Contents) (c : ℕ) → Last p ks o c → o < t → t ≤ b.lines → b.depth t ≡ deep b p
      → ((x : ℕ) → o < x → x < t → deep b p ≤ b.depth x) → Of b p t
  between_of p o t ks c a i w e f =
      record {
        after = let h = a.from in omega arith;
        within = w;
        deeper = let k = line_deep b t (omega arith) in omega arith;
        inside = λ x j k. go x j k (leb x o) refl;
      }
    where
      go : (x : ℕ) → p < x → x < t → (v : Bool) → leb x o ≡ v → deep b p < deep b x
      go x j k true h = a.inside x j (leb-true x o h)
      go x j k false h = let u = f x (let z = leb_no h in omega arith) k in let z = line_deep b x (omega arith) in omega arith
        where
          leb_no : leb x o ≡ false → o < x
          leb_no h = borrow.Author.Tests.leb-false x o h

  -- no line that has not been reached is counted
  unreached : (p : ℕ) (ks : Contents) (o c t : ℕ) → Last p ks o c → o < t → count t ks ≡ 0
  unreached p ks o c t a i = zero_of (count t ks) (λ h. let u = a.upto t h in omega arith)

  move_sound : (p : ℕ) (ks : Contents) (o c t : ℕ) → Last p ks o c → t ≤ b.lines → b.depth t ≡ deep b p → (opening p ≡ t → ⊥) → can_move b (level o c) t ≡ true → Moved p ks o c t
  move_sound p ks o c t a w e ne h = go (eqb o t) refl h
    where
      done : o < t → ((y : ℕ) → suc o ≤ y → y < suc o + (t - suc o) → Skipped b (b.depth t) y) → (l : ℕ) → Of b p l → b.required l ≡ true → l < t → 0 < count l ks
      done i f l q r j = on (leb l o) refl
        where
          on : (v : Bool) → leb l o ≡ v → 0 < count l ks
          on true k = a.done l q r (leb-true l o k)
          on false k = absurd (true≢false (sym r ∙ (f l (borrow.Author.Tests.leb-false l o k) (omega arith)).free (depth_of p l q ∙ sym e)))

      go : (v : Bool) → eqb o t ≡ v → cond v (ltb c (b.maximum t)) (ltb o t && is_passed b (b.depth t) (suc o) (t - suc o)) ≡ true → Moved p ks o c t
      go true k m =
          let u = eqb-true o t k in
          let z = a.again (let x = a.from in omega arith) in
          record {
            next =
                record {
                  of = subst (λ (x : ℕ). Of b p x) u z.0;
                  upto = λ x y. let v = a.upto x y in omega arith;
                  room = let x : count t ks ≡ c = subst (λ (x : ℕ). count x ks ≡ c) u z.1 in let y = ltb-true c (b.maximum t) m in omega arith;
                  done = λ l q r i. a.done l q r (omega arith);
                };
            counts = simp k (ap suc (subst (λ (x : ℕ). count x ks ≡ c) u z.1));
          }
      go false k m =
          let i = ltb-true o t (left (ltb o t) _ m) in
          let f = passes_all b (b.depth t) (suc o) (t - suc o) (right (ltb o t) _ m) in
          let of = between_of p o t ks c a i w e (λ x j l. let v = (f x j (omega arith)).inside in omega arith) in
          let z = unreached p ks o c t a i in
          record {
            next =
                record {
                  of = of;
                  upto = λ x y. let v = a.upto x y in omega arith;
                  room = let y = s.room t (omega arith) w in omega arith;
                  done = done i f;
                };
            counts = simp k (ap suc z);
          }

  move_yes : (p : ℕ) (ks : Contents) (o c t : ℕ) → Last p ks o c → Next b p ks t → can_move b (level o c) t ≡ true
  move_yes p ks o c t a n = go (eqb o t) refl
    where
      e : b.depth t ≡ deep b p
      e = depth_of p t n.of

      skip : o < t → (y : ℕ) → suc o ≤ y → y < suc o + (t - suc o) → Skipped b (b.depth t) y
      skip i y j k =
          let h = n.of.inside y (let x = a.from in let z = opening_le p in omega arith) (omega arith) in
          let z = line_deep b y (omega arith) in
          let ed = e in
          record {
            inside = omega arith;
            free = λ q. refuted (b.required y) (λ r.
                let of = between_of p o y ks c a j (let w = n.of.within in omega arith) (q ∙ e)
                (λ x l m. let hx = n.of.inside x (let v = a.from in let z = opening_le p in omega arith) (omega arith) in let zx = line_deep b x (omega arith) in omega arith) in
                let d = n.done y of r (omega arith) in
                let u = a.upto y d in omega arith);
          }

      go : (v : Bool) → eqb o t ≡ v → cond v (ltb c (b.maximum t)) (ltb o t && is_passed b (b.depth t) (suc o) (t - suc o)) ≡ true
      go true k =
          let u = eqb-true o t k in
          let z = a.again (let x = n.of.after in omega arith) in
          let x : count t ks ≡ c = subst (λ (x : ℕ). count x ks ≡ c) u z.1 in
          lt-ltb c (b.maximum t) (let y = n.room in omega arith)
      go false k =
          let ne = eqb-false o t k in
          let le = a.before t n.upto n.of.after in
          let i : o < t = omega arith in
          both (lt-ltb o t i) (passes_yes b (b.depth t) (suc o) (t - suc o) (skip i))

  -- closing
  clear_full : (p : ℕ) (ks : Contents) (o c : ℕ) → Last p ks o c → is_clear b (deep b p) (suc o) (b.lines - o) ≡ true → Full b p ks
  clear_full p ks o c a h l q r = go (leb l o) refl
    where
      go : (v : Bool) → leb l o ≡ v → 0 < count l ks
      go true k = a.done l q r (leb-true l o k)
      go false k =
          let i = borrow.Author.Tests.leb-false l o k in
          let w = q.within in
          absurd (true≢false (sym r ∙ clear_none b (deep b p) (suc o) (b.lines - o) h l
          (record { after = i; level = depth_of p l q; between = λ y u v. near y u v (same y l) }) (omega arith)))
        where
          near : (y : ℕ) → suc o ≤ y → y ≤ l → Same y l → deep b p ≤ b.depth y
          near y u v (it e f) = let d = depth_of p l q in let d2 = ap b.depth e in omega arith
          near y u v (other e f) = let d = q.inside y (let x = a.from in let z = opening_le p in omega arith) (omega arith) in let z = line_deep b y (omega arith) in omega arith

  full_clear : (p : ℕ) (ks : Contents) (o c : ℕ) → Last p ks o c → Full b p ks → is_clear b (deep b p) (suc o) (b.lines - o) ≡ true
  full_clear p ks o c a f =
      clear_yes b (deep b p) (suc o) (b.lines - o) (λ l m k. refuted (b.required l) (λ r.
      let h = f l (between_of p o l ks c a m.after (let i = m.after in omega arith) m.level (λ x i j. m.between x i (omega arith))) r in
      let u = a.upto l h in let i = m.after in omega arith))

  pub parent_of : (p g : ℕ) → Of b p g → b.group g ≡ true → Parent g
  parent_of p zero o e = tt
  parent_of p (suc g) o e = (s.trigger (suc g) (omega arith) o.within e, e)

  shut_good : (p : ℕ) (ks : Contents) → Open b p ks → can_close_all b (suc (deep b p)) (below ks) ≡ true → Good b p ks
  unfolding can_close_all
  shut_good p nothing o h = tt
  shut_good p (segment ks l) o h = o
  shut_good p (instance ks g inner) o h =
      let d = o.2.of.deeper in
      let z : can_close_all b (deep b g) (levels g inner) ≡ true = rw d h in
      let a = last_of g inner (parent_of p g o.2.of o.1) o.3 in (
        o.0,
        o.1,
        o.2,
        shut_good g inner o.3 (right (is_clear b (deep b g) (suc (last_line g inner)) (b.lines - last_line g inner)) _ z),
        clear_full g inner (last_line g inner) (last_count inner) a (left _ (can_close_all b (suc (deep b g)) (below inner)) z),
      )

  good_shut : (p : ℕ) (ks : Contents) → Good b p ks → can_close_all b (suc (deep b p)) (below ks) ≡ true
  unfolding can_close_all
  good_shut p nothing o = refl
  good_shut p (segment ks l) o = refl
  good_shut p (instance ks g inner) o =
      let d = o.2.of.deeper in
      let a = last_of g inner (parent_of p g o.2.of o.1) (good_open b g inner o.3) in
      rw (← d) (both (full_clear g inner (last_line g inner) (last_count inner) a o.4) (good_shut g inner o.3))

  -- a line that is placed: no trigger, and the home that stands for it
  abbrev pub added : Bool → Contents → ℕ → Contents
  added true ks t = instance ks t nothing
  added false ks t = segment ks t

  abbrev pub home_for : Bool → ℕ → ℕ
  home_for true t = suc t
  home_for false t = t

  abbrev NoTrigger : ℕ → Type 0
  NoTrigger t = (g : ℕ) → suc g ≡ t → 1 ≤ g → b.group g ≡ true → ⊥

  not_opening : (p t : ℕ) → Parent p → NoTrigger t → 0 < t → opening p ≡ t → ⊥
  not_opening zero t q n z h = omega arith
  not_opening (suc g) t q n z h = n (suc g) h (omega arith) q.1

  -- what a placed line makes of a tree
  record Put (p : ℕ) (T : Contents) (h : ℕ) (vs : List Level) : Type 0 where
    tree : Contents
    stands : Open b p tree
    same : (rest : List ℕ) → homes tree rest ≡ homes T (h ∷ rest)
    stack : levels p tree ≡ vs

  lift : (p : ℕ) (ks : Contents) (x : ℕ) (inner : Contents) (h : ℕ) (vs : List Level) → Good b p ks × (b.group x ≡ true) × Next b p ks x
      → Put x inner h vs → Put p (instance ks x inner) h (level x (suc (count x ks)) ∷ vs)
  unfolding homes
  lift p ks x inner h vs o r =
      record {
        tree = instance ks x r.tree;
        stands = (o.0, o.1, o.2, r.stands);
        same = λ rest. ap (λ (y : List ℕ). homes ks (suc x ∷ y)) (r.same rest);
        stack = ap (λ (y : List Level). level x (suc (count x ks)) ∷ y) r.stack;
      }

  -- at the level of p itself
  put_here : (p : ℕ) (T : Contents) (t : ℕ) (e : Bool) → b.group t ≡ e → Open b p T → Parent p → t ≤ b.lines → b.depth t ≡ deep b p
      → (opening p ≡ t → ⊥) → 0 < t → can_move b (level (last_line p T) (last_count T)) t ≡ true → can_close_all b (suc (deep b p)) (below T) ≡ true
      → Put p T (home_for e t) (raised (level (last_line p T) (last_count T)) t ∷ entered e (home_for e t))
  unfolding homes
  put_here p T t false k o q w d n z m c =
      let r = move_sound p T (last_line p T) (last_count T) t (last_of p T q o) w d n m in
      record {
        tree = segment T t;
        stands = (shut_good p T o c, k, r.next);
        same = λ rest. refl;
        stack = ap (λ (x : ℕ). level t x ∷ []) r.counts;
      }
  put_here p T zero true k o q w d n z m c = absurd (omega arith)
  put_here p T (suc t) true k o q w d n z m c =
      let r = move_sound p T (last_line p T) (last_count T) (suc t) (last_of p T q o) w d n m in
      record {
        tree = instance T (suc t) nothing;
        stands = (shut_good p T o c, k, r.next, tt);
        same = λ rest. refl;
        stack = ap (λ (x : ℕ). level (suc t) x ∷ level (suc (suc t)) 1 ∷ []) r.counts;
      }

  -- at any level: D levels below that of p
  put : (D p : ℕ) (T : Contents) (t : ℕ) (e : Bool) → b.group t ≡ e → Open b p T → Parent p → t ≤ b.lines → b.depth t ≡ D + deep b p
      → NoTrigger t → 0 < t → D < length (levels p T) → can_move b (get_or (levels p T) D (level 0 0)) t ≡ true
      → can_close_all b (suc (b.depth t)) (drop (suc D) (levels p T)) ≡ true
      → Put p T (home_for e t) (take D (levels p T) ++ (raised (get_or (levels p T) D (level 0 0)) t ∷ entered e (home_for e t)))
  put zero p T t e k o q w d n z i m c =
      let dp : b.depth t ≡ deep b p = omega arith in
      put_here p T t e k o q w dp (not_opening p t q n z) z m (rw dp at c)
  put (suc D) p nothing t e k o q w d n z i m c = absurd (omega arith)
  put (suc D) p (segment ks l) t e k o q w d n z i m c = absurd (omega arith)
  put (suc D) p (instance ks x inner) t e k o q w d n z i m c =
      let dx = o.2.of.deeper in
      let r = put D x inner t e k o.3 (parent_of p x o.2.of o.1) w (omega arith) n z (omega arith) m c in
      lift p ks x inner (home_for e t) _ (o.0, o.1, o.2) r

  -- one home
  is_trigger-no : (l : ℕ) → is_trigger b l ≡ false → NoTrigger l
  is_trigger-no zero h g e i k = omega arith
  is_trigger-no (suc zero) h g e i k = omega arith
  is_trigger-no (suc (suc l)) h g e i k = true≢false (sym k ∙ ap b.group (omega arith) ∙ h)

  -- a group is no trigger
  group_no : (t : ℕ) → t ≤ b.lines → b.group t ≡ true → NoTrigger t
  group_no t w k g e i j = true≢false (sym k ∙ ap b.group (sym e) ∙ (s.trigger g i (omega arith) j).segment)

  -- what `is_placeable` says
  a_line : (l : ℕ) → is_placeable b l ≡ true → SegmentLine b l
  unfolding is_placeable
  a_line l h =
      let h1 = right (ltb 0 l) _ h in
      let h2 = right (leb l b.lines) _ h1 in
      record {
        some = ltb-true 0 l (left (ltb 0 l) _ h);
        within = leb-true l b.lines (left (leb l b.lines) _ h1);
        segment = denied (b.group l) (left (not (b.group l)) _ h2);
      }

  put_fits : (T : Contents) (t : ℕ) (e : Bool) → b.group t ≡ e → Open b 0 T → t ≤ b.lines → NoTrigger t → 0 < t → admits b (levels 0 T) t ≡ true
      → Put 0 T (home_for e t) (stacked (b.depth t) (levels 0 T) t ++ entered e (home_for e t))
  unfolding admits stacked
  put_fits T t e k o w n z h =
      let h1 = right (ltb (b.depth t) (length (levels 0 T))) _ h in
      let r = put (b.depth t) 0 T t e k o tt w (omega arith) n z (ltb-true (b.depth t) (length (levels 0 T)) (left (ltb (b.depth t) (length (levels 0 T))) _ h))
      (left (can_move b (get_or (levels 0 T) (b.depth t) (level 0 0)) t) _ h1) (right (can_move b (get_or (levels 0 T) (b.depth t) (level 0 0)) t) _ h1) in
      record { tree = r.tree; stands = r.stands; same = r.same; stack = r.stack ∙ sym (append_assoc (take (b.depth t) (levels 0 T)) (raised (get_or (levels 0 T) (b.depth t) (level 0 0)) t ∷ []) (entered e (home_for e t))) }

  advance_put : (T : Contents) (l : ℕ) (v : Bool) → is_trigger b l ≡ v → Open b 0 T → SegmentLine b l → admits b (levels 0 T) (cond v (pred l) l) ≡ true
      → Put 0 T l (stacked (b.depth (cond v (pred l) l)) (levels 0 T) (cond v (pred l) l) ++ entered v l)
  advance_put T l false e o x h = put_fits T l false x.segment o x.within (is_trigger-no l e) x.some h
  advance_put T zero true e o x h = absurd (false≢true e)
  advance_put T (suc zero) true e o x h = absurd (false≢true e)
  advance_put T (suc (suc g)) true e o x h =
      let w = x.within in put_fits T (suc g) true e o (omega arith) (group_no (suc g) (omega arith) e) (omega arith) h

  -- the walk from an open tree
  pub record Stands (hs : List ℕ) (T : Contents) (vs : List Level) : Type 0 where
    pub tree : Contents
    pub stands : Open b 0 tree
    pub same : (rest : List ℕ) → homes tree rest ≡ homes T (hs ++ rest)
    pub stack : levels 0 tree ≡ vs

  pub walked_on : (vs : List Level) (h : ℕ) (hs : List ℕ) → walked b vs (h ∷ hs) ≡ walked b (advanced b vs h) hs
  unfolding walked
  walked_on vs h hs = refl

  pub walked_nil : (vs : List Level) → walked b vs [] ≡ vs
  unfolding walked
  walked_nil vs = refl

  advanced_dead : (h : ℕ) → advanced b [] h ≡ []
  unfolding advanced admits
  advanced_dead h = simp (le-ltb (b.depth (target b h)) 0 (omega arith), and-false)

  pub dead : (hs : List ℕ) → walked b [] hs ≡ []
  dead [] = walked_nil []
  dead (h ∷ hs) = walked_on [] h hs ∙ ap (λ (x : List Level). walked b x hs) (advanced_dead h) ∙ dead hs

  -- one home, alive or not
  data Step (T : Contents) (h : ℕ) : Type 0 where
    on : Put 0 T h (advanced b (levels 0 T) h) → Step T h
    off : advanced b (levels 0 T) h ≡ [] → Step T h

  step : (T : Contents) (h : ℕ) → Open b 0 T → Step T h
  unfolding advanced target
  step T h o = go (is_placeable b h && admits b (levels 0 T) (target b h)) refl
    where
      go : (v : Bool) → (is_placeable b h && admits b (levels 0 T) (target b h)) ≡ v → Step T h
      go true e =
          let r = advance_put T h (is_trigger b h) refl o (a_line h (left (is_placeable b h) _ e)) (right (is_placeable b h) (admits b (levels 0 T) (target b h)) e) in
          on (record { tree = r.tree; stands = r.stands; same = r.same; stack = r.stack ∙ sym (simp e) })
      go false e = off (simp e)

  pub walk_sound : (hs : List ℕ) (T : Contents) → Open b 0 T → is_alive (walked b (levels 0 T) hs) ≡ true → Stands hs T (walked b (levels 0 T) hs)
  walk_sound [] T o h = record { tree = T; stands = o; same = λ rest. refl; stack = sym (walked_nil (levels 0 T)) }
  walk_sound (h ∷ hs) T o a = go (λ U p. walk_sound hs U p) (step T h o)
    where
      go : ((U : Contents) → Open b 0 U → is_alive (walked b (levels 0 U) hs) ≡ true → Stands hs U (walked b (levels 0 U) hs)) → Step T h → Stands (h ∷ hs) T (walked b (levels 0 T) (h ∷ hs))
      go ih (off e) = absurd (false≢true (sym (ap is_alive (walked_on (levels 0 T) h hs ∙ ap (λ (x : List Level). walked b x hs) e ∙ dead hs)) ∙ a))
      go ih (on r) =
          let e : walked b (levels 0 T) (h ∷ hs) ≡ walked b (levels 0 r.tree) hs = walked_on (levels 0 T) h hs ∙ ap (λ (x : List Level). walked b x hs) (sym r.stack) in
          let i = ih r.tree r.stands (sym (ap is_alive e) ∙ a) in
          record { tree = i.tree; stands = i.stands; same = λ rest. i.same rest ∙ r.same (hs ++ rest); stack = i.stack ∙ sym e }

  -- the other way: a complete tree is walked through
  pub of_no_trigger : (p t : ℕ) → Of b p t → is_trigger b t ≡ false
  of_no_trigger p zero o = refl
  of_no_trigger p (suc zero) o = refl
  of_no_trigger p (suc (suc g)) o = refuted (b.group (suc g)) (λ e. go (s.trigger (suc g) (omega arith) (let w = o.within in omega arith) e) (same p (suc g)))
    where
      go : Trigger b (suc g) → Same p (suc g) → ⊥
      go t (it e f) = let a : opening (suc g) < suc (suc g) = subst (λ (x : ℕ). opening x < suc (suc g)) e o.after in omega arith
      go t (other e f) =
          let a = o.after in
          let z = opening_le p in
          let i = o.inside (suc g) (omega arith) (omega arith) in
          let d = o.deeper in
          let d2 = t.deeper in
          omega arith

  pub home_for-trigger : (p t : ℕ) (e : Bool) → b.group t ≡ e → Of b p t → is_trigger b (home_for e t) ≡ e
  home_for-trigger p t false k o = of_no_trigger p t o
  home_for-trigger p zero true k o = absurd (let a = o.after in omega arith)
  home_for-trigger p (suc t) true k o = k

  pub home_for-target : (p t : ℕ) (e : Bool) → b.group t ≡ e → Of b p t → target b (home_for e t) ≡ t
  unfolding target
  home_for-target p t false k o = simp (of_no_trigger p t o)
  home_for-target p zero true k o = absurd (let a = o.after in omega arith)
  home_for-target p (suc t) true k o = simp k

  home_for-shallow : (p t : ℕ) (e : Bool) → b.group t ≡ e → Of b p t → ltb (b.depth t) (cond e 7 8) ≡ true
  home_for-shallow p t false k o = lt-ltb (b.depth t) 8 (let d = s.deepest t (let a = o.after in omega arith) o.within in omega arith)
  home_for-shallow p t true k o =
      let r = s.trigger t (let a = o.after in omega arith) o.within k in
      lt-ltb (b.depth t) 7 (let d = s.deepest (suc t) (omega arith) r.within in let e = r.deeper in omega arith)

  home_for-line : (p t : ℕ) (e : Bool) → b.group t ≡ e → Of b p t → SegmentLine b (home_for e t)
  home_for-line p t false k o = record { some = let a = o.after in omega arith; within = o.within; segment = k }
  home_for-line p t true k o = let r = s.trigger t (let a = o.after in omega arith) o.within k in record { some = omega arith; within = r.within; segment = r.segment }

  home_for-placeable : (p t : ℕ) (e : Bool) → b.group t ≡ e → Of b p t → is_placeable b (home_for e t) ≡ true
  unfolding is_placeable
  home_for-placeable p t e k o =
      let r = home_for-line p t e k o in
      rw (home_for-target p t e k o, home_for-trigger p t e k o)
      (both (lt-ltb 0 (home_for e t) r.some) (both (le-leb (home_for e t) b.lines r.within) (both (ap not r.segment) (home_for-shallow p t e k o))))

  counts_of : (p : ℕ) (ks : Contents) (o c t : ℕ) → Last p ks o c → Next b p ks t → suc (count t ks) ≡ cond (eqb o t) (suc c) 1
  counts_of p ks o c t a n = go (eqb o t) refl
    where
      go : (v : Bool) → eqb o t ≡ v → suc (count t ks) ≡ cond v (suc c) 1
      go true k =
          let u = eqb-true o t k in
          let z = a.again (let x = n.of.after in omega arith) in
          ap suc (subst (λ (x : ℕ). count x ks ≡ c) u z.1)
      go false k = let ne = eqb-false o t k in let le = a.before t n.upto n.of.after in ap suc (unreached p ks o c t a (omega arith))

  at_end : (us : List Level) (v : Level) (vs : List Level) (x : Level) → get_or (us ++ (v ∷ vs)) (length us) x ≡ v
  at_end [] v vs x = refl
  at_end (u ∷ us) v vs x = at_end us v vs x

  drop_end : (us : List Level) (v : Level) (vs : List Level) → drop (suc (length us)) (us ++ (v ∷ vs)) ≡ vs
  drop_end [] v vs = refl
  drop_end (u ∷ us) v vs = drop_end us v vs

  take_end : (us : List Level) (vs : List Level) → take (length us) (us ++ vs) ≡ us
  take_end [] vs = refl
  take_end (u ∷ us) vs = ap (λ (x : List Level). u ∷ x) (take_end us vs)

  long_end : (us : List Level) (v : Level) (vs : List Level) → length us < length (us ++ (v ∷ vs))
  long_end [] v vs = omega arith
  long_end (u ∷ us) v vs = let h = long_end us v vs in omega arith

  module _ (p : ℕ) (ks : Contents) (outer : List Level) (g : Good b p ks) (q : Parent p) (d : length outer ≡ deep b p) (t : ℕ) (n : Next b p ks t) where
    at : Last p ks (last_line p ks) (last_count ks)
    at = last_of p ks q (good_open b p ks g)

    same_depth : b.depth t ≡ length outer
    same_depth = depth_of p t n.of ∙ sym d

    abbrev here : Level
    here = level (last_line p ks) (last_count ks)

    get_here : get_or (outer ++ levels p ks) (b.depth t) (level 0 0) ≡ here
    get_here = ap (λ (i : ℕ). get_or (outer ++ levels p ks) i (level 0 0)) same_depth ∙ at_end outer here (below ks) (level 0 0)

    next_fits : admits b (outer ++ levels p ks) t ≡ true
    unfolding admits
    next_fits =
        both
        (lt-ltb (b.depth t) (length (outer ++ levels p ks)) (let h = long_end outer here (below ks) in let e = same_depth in omega arith))
        (both
        (subst (λ (v : Level). can_move b v t ≡ true) (sym get_here) (move_yes p ks (last_line p ks) (last_count ks) t at n))
        (subst (λ (v : List Level). can_close_all b (suc (b.depth t)) v ≡ true)
        (sym (ap (λ (i : ℕ). drop (suc i) (outer ++ levels p ks)) same_depth ∙ drop_end outer here (below ks)))
        (subst (λ (i : ℕ). can_close_all b (suc i) (below ks) ≡ true) (sym (depth_of p t n.of)) (good_shut p ks g))))

    next_stacked : stacked (b.depth t) (outer ++ levels p ks) t ≡ outer ++ (level t (suc (count t ks)) ∷ [])
    unfolding stacked
    next_stacked =
        ap (λ (v : Level). take (b.depth t) (outer ++ levels p ks) ++ (raised v t ∷ [])) get_here
        ∙ ap (λ (i : ℕ). take i (outer ++ levels p ks) ++ (raised here t ∷ [])) same_depth
        ∙ ap (λ (v : List Level). v ++ (raised here t ∷ [])) (take_end outer (levels p ks))
        ∙ ap (λ (c : ℕ). outer ++ (level t c ∷ [])) (sym (counts_of p ks (last_line p ks) (last_count ks) t at n))

    next_advanced : (e : Bool) → b.group t ≡ e
        → advanced b (outer ++ levels p ks) (home_for e t) ≡ outer ++ (level t (suc (count t ks)) ∷ entered e (home_for e t))
    unfolding advanced
    next_advanced e k =
        rw (home_for-target p t e k n.of, home_for-trigger p t e k n.of, home_for-placeable p t e k n.of, next_fits, next_stacked)
        (append_assoc outer (level t (suc (count t ks)) ∷ []) (entered e (home_for e t)))

  deeper : (p : ℕ) (ks : Contents) (x : ℕ) (inner : Contents) (outer : List Level) → Next b p ks x
      → outer ++ (level x (suc (count x ks)) ∷ level (suc x) 1 ∷ []) ≡ (outer ++ (level x (suc (count x ks)) ∷ [])) ++ levels x nothing
  deeper p ks zero inner outer n = absurd (let a = n.of.after in omega arith)
  deeper p ks (suc x) inner outer n = sym (append_assoc outer (level (suc x) (suc (count (suc x) ks)) ∷ []) (levels (suc x) nothing))

  pub walk_good : (p : ℕ) (ks : Contents) → Good b p ks → Parent p → (outer : List Level) → length outer ≡ deep b p → (rest : List ℕ)
      → walked b (outer ++ levels p nothing) (homes ks rest) ≡ walked b (outer ++ levels p ks) rest
  unfolding homes
  walk_good p nothing g q outer d rest = refl
  walk_good p (segment ks l) g q outer d rest =
      walk_good p ks g.0 q outer d (l ∷ rest) ∙ walked_on (outer ++ levels p ks) l rest
      ∙ ap (λ (v : List Level). walked b v rest) (next_advanced p ks outer g.0 q d l g.2 false g.1)
  walk_good p (instance ks x inner) g q outer d rest =
      walk_good p ks g.0 q outer d (suc x ∷ homes inner rest) ∙ walked_on (outer ++ levels p ks) (suc x) (homes inner rest)
      ∙ ap (λ (v : List Level). walked b v (homes inner rest)) (next_advanced p ks outer g.0 q d x g.2 true g.1 ∙ deeper p ks x inner outer g.2)
      ∙ walk_good x inner g.3 (parent_of p x g.2.of g.1) (outer ++ (level x (suc (count x ks)) ∷ []))
      (length-append outer (level x (suc (count x ks)) ∷ []) ∙ (let e = g.2.of.deeper in omega arith)) rest
      ∙ ap (λ (v : List Level). walked b v rest) (append_assoc outer (level x (suc (count x ks)) ∷ []) (levels x inner))
