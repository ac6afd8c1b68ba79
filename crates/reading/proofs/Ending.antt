-- Where a segment's end can lie: it has at least its tag and its terminator, and lies within the bytes. Then how the search for it
-- goes on, byte by byte, and what its number says.
use Prim.Native.Nat.{ℕ, suc, ◌+◌, ◌-◌, ◌≤◌, ◌<◌}
use native.Mathlib.Omega.{arith}
use native.Mathlib.Numerals.{add-one}
use mathlib.Core.Path.{◌≡◌, refl, sym, ap, ap₂, ◌∙◌}
use mathlib.Core.List.{List, [], ◌∷◌}
use mathlib.Core.Bool.{Bool, true, false, true≢false, not, ◌&&◌, ◌||◌}
use lib.Dec.{eqb, leb, ltb}
use lib.ListN.{length, get_or, drop, length-drop, drop_of_length-le}
use lib.Seq.{drop-cons}
use borrow.Author.Tests.{ltb-true, ltb-false, lt-ltb, le-ltb}
use Rattle.std.specs.Prelude.{Option, Some, None}
use Rattle.reading.specs.meaning.Service.{is_data, is_tag_byte, must_release}
use Rattle.reading.specs.method.Machine.{pick, kind_of, after_tag, after_tagged, after_opened, after_parted, after_inside, after_released, stepped, is_text, is_start, is_dead, end_on, segment_end}
use Rattle.reading.specs.method.Kept.{TagOrNone, Passed, held_by, opened_by, marked_by, or_length}
use Rattle.reading.specs.declared.service.Service.{Service}
use Rattle.reading.specs.declared.bytes.Kind.{Kind}
use Rattle.reading.specs.declared.bytes.Kind.TheVariants.{Component, Element, Terminator, Release, Plain, Other}
use Rattle.reading.specs.declared.machine.State.{State}
use Rattle.reading.specs.declared.machine.State.TheVariants.{Start, Second, Third, Tagged, Opened, Parted, Inside, Released, Dead}
use Rattle.reading.proofs.States.{Course, ends, goes_on, fails, course}

-- ---- how near the terminator can be

-- how many bytes have to come before the terminator
abbrev least : State → ℕ
least Start = 3
least Second = 2
least Third = 1
least Tagged = 0
least Opened = 0
least Parted = 0
least Inside = 0
least Released = 0
least Dead = 0

-- a byte brings the terminator nearer by one, and before the terminator itself nothing had to come
abbrev Nearer : ℕ → State → Type 0
Nearer n q = is_dead q ≡ false → n ≤ pick (is_start q) 0 (least q + 1)

nearer_tag : (t : Bool) (q : State) (n : ℕ) → is_start q ≡ false → n ≤ least q + 1 → Nearer n (after_tag t q)
nearer_tag true q n t h = λ d. rw t h
nearer_tag false q n t h = λ d. absurd (true≢false d)

nearer : (s : Service) (p : State) (b : ℕ) → Nearer (least p) (stepped s p b)
nearer s Start b = nearer_tag (is_tag_byte b) Second 3 refl (omega arith)
nearer s Second b = nearer_tag (is_tag_byte b) Third 2 refl (omega arith)
nearer s Third b = nearer_tag (is_tag_byte b) Tagged 1 refl (omega arith)
nearer s Tagged b = λ d. omega arith
nearer s Opened b = λ d. omega arith
nearer s Parted b = λ d. omega arith
nearer s Inside b = λ d. omega arith
nearer s Released b = λ d. omega arith
nearer s Dead b = λ d. omega arith

pub record Within (from length end : ℕ) : Type 0 where
  pub behind : from ≤ end
  pub inside : end < length

pub at_is : {m n : ℕ} → Some m ≡ Some n → m ≡ n
at_is e = cc

pub not_at : {n : ℕ} → None ≡ Some n → ⊥
not_at e = let z : ◌≡◌ {A = ℕ} 0 1 = cc in omega arith

pub end_on_within : (s : Service) (p : State) (here end : ℕ) (bs : List ℕ) → end_on s p here bs ≡ Some end → Within (here + least p) (here + length bs) end
unfolding end_on
end_on_within s p here end [] e = absurd (not_at e)
end_on_within s p here end (b ∷ bs) e = go (course (stepped s p b)) (nearer s p b) (λ q. end_on_within s q (here + 1) end bs) e
  where
    go : {q : State} → Course q → Nearer (least p) q → ((x : State) → end_on s x (here + 1) bs ≡ Some end → Within (here + 1 + least x) (here + 1 + length bs) end)
        → pick (is_start q) (Some here) (pick (is_dead q) None (end_on s q (here + 1) bs)) ≡ Some end → Within (here + least p) (here + suc (length bs)) end
    go ends near ih e = let x : here ≡ end = at_is e in let h = near refl in record { behind = omega arith; inside = omega arith }
    go (goes_on t d) near ih e =
        let w = ih _ (rw (t, d) at e) in
        let h = rw t at (near d) in
        record { behind = let x = w.behind in omega arith; inside = let x = w.inside in omega arith }
    go fails near ih e = absurd (not_at e)

-- the terminator stands behind the three bytes of the tag, and within the message
pub end_within : (s : Service) (bs : List ℕ) (at end : ℕ) → segment_end s bs at ≡ Some end → Within (at + 3) (length bs) end
end_within s bs at end e =
    let w = end_on_within s Start at end (drop at bs) e in
    record { behind = w.behind; inside = let x = w.inside in let y = w.behind in omega (arith, length-drop at bs) }

-- ---- what a byte is to a segment's text

-- how it moves the state that two flags stand for
abbrev pub after_held : Bool → Bool → Kind → State
after_held opened true = after_parted
after_held true false = after_opened
after_held false false = after_inside

-- what holds of the three holds of it
each_held : (P : (Kind → State) → Type 0) → P after_opened → P after_parted → P after_inside → (opened parted : Bool) → P (after_held opened parted)
each_held P o p i opened true = p
each_held P o p i true false = o
each_held P o p i false false = i

pub held_step : (s : Service) (opened parted : Bool) (b : ℕ) → stepped s (held_by opened parted) b ≡ after_held opened parted (kind_of s b)
held_step s opened true b = refl
held_step s true false b = refl
held_step s false false b = refl

-- text leaves flags for flags
text_by : (after : Kind → State) → after Component ≡ Parted → after Plain ≡ Inside → (low high more r c e t : Bool)
    → low && (high && (not t && (not e && not r))) ≡ true
    → after (pick r Release (pick c Component (pick e Element (pick t Terminator (pick ((low && high) || more) Plain Other))))) ≡ held_by false c
text_by after x y false high more r c e t h = absurd (true≢false (sym h))
text_by after x y true false more r c e t h = absurd (true≢false (sym h))
text_by after x y true true more r c e true h = absurd (true≢false (sym h))
text_by after x y true true more r c true false h = absurd (true≢false (sym h))
text_by after x y true true more true c false false h = absurd (true≢false (sym h))
text_by after x y true true more false true false false h = x
text_by after x y true true more false false false false h = y

pub text_held : (s : Service) (opened parted : Bool) (b : ℕ) → is_text s b ≡ true → after_held opened parted (kind_of s b) ≡ held_by false (eqb b s.component)
unfolding is_text kind_of is_data
text_held s opened parted b h =
    each_held (λ after. after (kind_of s b) ≡ held_by false (eqb b s.component)) (by after_opened refl refl) (by after_parted refl refl) (by after_inside refl refl) opened parted
  where
    by : (after : Kind → State) → after Component ≡ Parted → after Plain ≡ Inside → after (kind_of s b) ≡ held_by false (eqb b s.component)
    by after x y =
        text_by after x y (leb 0x20 b) (leb b 0x7e) (leb 0xa0 b && leb b 0xff)
        (eqb b s.release) (eqb b s.component) (eqb b s.element) (eqb b s.terminator) h

-- a byte of a known kind
held_component : (opened parted : Bool) → after_held opened parted Component ≡ held_by false true
held_component = each_held (λ after. after Component ≡ Parted) refl refl refl

held_release : (opened parted : Bool) → after_held opened parted Release ≡ Released
held_release = each_held (λ after. after Release ≡ Released) refl refl refl

held_plain : (opened parted : Bool) → after_held opened parted Plain ≡ held_by false false
held_plain = each_held (λ after. after Plain ≡ Inside) refl refl refl

held_other : (opened parted : Bool) → after_held opened parted Other ≡ Dead
held_other = each_held (λ after. after Other ≡ Dead) refl refl refl

held_element : (opened parted : Bool) → after_held opened parted Element ≡ pick parted Dead Opened
held_element opened true = refl
held_element true false = refl
held_element false false = refl

held_terminator : (opened parted : Bool) → after_held opened parted Terminator ≡ pick (opened || parted) Dead Start
held_terminator true true = refl
held_terminator false true = refl
held_terminator true false = refl
held_terminator false false = refl

released_by : (r c e t d : Bool)
    → after_released (pick r Release (pick c Component (pick e Element (pick t Terminator (pick d Plain Other))))) ≡ pick (r || (c || (e || t))) Inside Dead
released_by true c e t d = refl
released_by false true e t d = refl
released_by false false true t d = refl
released_by false false false true d = refl
released_by false false false false true = refl
released_by false false false false false = refl

pub after_release : (s : Service) (b : ℕ) → stepped s Released b ≡ pick (must_release s b) Inside Dead
unfolding must_release kind_of
after_release s b = released_by (eqb b s.release) (eqb b s.component) (eqb b s.element) (eqb b s.terminator) (is_data b)

-- ---- byte by byte

module _ (s : Service) (bs : List ℕ) where
  end_turn : (p q : State) (at : ℕ) → at < length bs → stepped s p (get_or bs at 0) ≡ q
      → end_on s p at (drop at bs) ≡ pick (is_start q) (Some at) (pick (is_dead q) None (end_on s q (at + 1) (drop (at + 1) bs)))
  unfolding end_on
  end_turn p q at h e = rw (drop-cons bs at 0 h, e, add-one at)

  -- nothing is left
  end_out : (p : State) (at : ℕ) → length bs ≤ at → end_on s p at (drop at bs) ≡ None
  unfolding end_on
  end_out p at h = ap (end_on s p at) (drop_of_length-le bs h)

  -- to an offset that is written in another way
  end_at : (p : State) (m n : ℕ) → m ≡ n → end_on s p m (drop m bs) ≡ end_on s p n (drop n bs)
  end_at p m n e = ap (λ (k : ℕ). end_on s p k (drop k bs)) e

  -- in a state that flags stand for
  held_turn : (opened parted x y : Bool) (at : ℕ) → at < length bs → after_held opened parted (kind_of s (get_or bs at 0)) ≡ held_by x y
      → end_on s (held_by opened parted) at (drop at bs) ≡ end_on s (held_by x y) (at + 1) (drop (at + 1) bs)
  held_turn opened parted x y at h e = end_turn (held_by opened parted) (held_by x y) at h (held_step s opened parted (get_or bs at 0) ∙ e) ∙ go x y
    where
      go : (x y : Bool) → pick (is_start (held_by x y)) (Some at) (pick (is_dead (held_by x y)) None (end_on s (held_by x y) (at + 1) (drop (at + 1) bs)))
          ≡ end_on s (held_by x y) (at + 1) (drop (at + 1) bs)
      go x true = refl
      go true false = refl
      go false false = refl

  -- ---- text is passed

  module _ (from : ℕ) where
    pub passed_none : Passed s bs from from
    passed_none =
        record {
          onward = omega arith;
          same = λ opened parted. ap₂ (λ (x y : Bool). end_on s (held_by x y) from (drop from bs)) (still-opened opened) (still-parted parted);
        }
      where
        still-opened : (x : Bool) → x ≡ opened_by from from x
        still-opened x = sym (ap (λ (y : Bool). pick y false x) (le-ltb from from (omega arith)))

        still-parted : (x : Bool) → x ≡ marked_by s bs from from x
        still-parted x = sym (ap (λ (y : Bool). pick y (eqb (get_or bs (from - 1) 0) s.component) x) (le-ltb from from (omega arith)))

    pub passed_on : (at : ℕ) → at < length bs → Passed s bs from at → is_text s (get_or bs at 0) ≡ true → Passed s bs from (at + 1)
    passed_on at h i t =
        let w = i.onward in
        record {
          onward = omega arith;
          same = λ opened parted.
              i.same opened parted
              ∙ held_turn (opened_by from at opened) (marked_by s bs from at parted) false (eqb (get_or bs at 0) s.component) at h
              (text_held s (opened_by from at opened) (marked_by s bs from at parted) (get_or bs at 0) t)
              ∙ ap₂ (λ (x y : Bool). end_on s (held_by x y) (at + 1) (drop (at + 1) bs)) (no-longer-opened opened (omega arith)) (parted-now parted (omega arith));
        }
      where
        no-longer-opened : (x : Bool) → from < at + 1 → false ≡ opened_by from (at + 1) x
        no-longer-opened x l = sym (ap (λ (y : Bool). pick y false x) (lt-ltb from (at + 1) l))

        parted-now : (x : Bool) → from < at + 1 → eqb (get_or bs at 0) s.component ≡ marked_by s bs from (at + 1) x
        parted-now x l =
            let k : at ≡ at + 1 - 1 = omega arith in
            ap (λ (n : ℕ). eqb (get_or bs n 0) s.component) k
            ∙ sym (ap (λ (y : Bool). pick y (eqb (get_or bs (at + 1 - 1) 0) s.component) x) (lt-ltb from (at + 1) l))

  -- ---- what ends a text

  module _ (from : ℕ) where
    abbrev wanted : ℕ
    wanted = or_length bs (end_on s Opened from (drop from bs))

    -- behind an element's mark: what is found from here on is what is found from the beginning
    abbrev pub Ending : Bool → Bool → ℕ → Type 0
    Ending opened parted at = end_on s (held_by opened parted) at (drop at bs) ≡ end_on s Opened from (drop from bs)

    pub ending_out : (opened parted : Bool) (at : ℕ) → length bs ≤ at → Ending opened parted at → length bs ≡ wanted
    ending_out opened parted at h i = ap (or_length bs) (sym (end_out (held_by opened parted) at h) ∙ i)

    -- text up to the end
    pub ending_none : (opened parted : Bool) (next at : ℕ) → Ending opened parted next → Passed s bs next at → length bs ≤ at → length bs ≡ wanted
    ending_none opened parted next at j p h =
        ap (or_length bs) (sym (p.same opened parted ∙ end_out (held_by (opened_by next at opened) (marked_by s bs next at parted)) at h) ∙ j)

    -- text has been passed from `next` on, and at `at` something else stands
    module _ (was-opened was-parted : Bool) (next at : ℕ) (j : Ending was-opened was-parted next) (p : Passed s bs next at) (h : at < length bs) where
      abbrev opened : Bool
      opened = opened_by next at was-opened

      abbrev parted : Bool
      parted = marked_by s bs next at was-parted

      i : Ending opened parted at
      i = sym (p.same was-opened was-parted) ∙ j

      -- a mark of either kind
      either : opened || parted ≡ marked_by s bs next at (was-opened || was-parted)
      either = go (ltb next at)
        where
          go : (t : Bool) → pick t false was-opened || pick t (eqb (get_or bs (at - 1) 0) s.component) was-parted
              ≡ pick t (eqb (get_or bs (at - 1) 0) s.component) (was-opened || was-parted)
          go true = refl
          go false = refl

      -- a byte of a known kind
      module _ (kind : Kind) (k : kind ≡ kind_of s (get_or bs at 0)) where
        ending-on : (known : Kind) (x y : Bool) → kind ≡ known → after_held opened parted known ≡ held_by x y → Ending x y (at + 1)
        ending-on known x y is e = sym (held_turn opened parted x y at h (ap (after_held opened parted) (sym k ∙ is) ∙ e)) ∙ i

        ending-by : (known : Kind) (q : State) → kind ≡ known → after_held opened parted known ≡ q
            → pick (is_start q) (Some at) (pick (is_dead q) None (end_on s q (at + 1) (drop (at + 1) bs))) ≡ end_on s Opened from (drop from bs)
        ending-by known q is e =
            sym (end_turn (held_by opened parted) q at h (held_step s opened parted (get_or bs at 0) ∙ ap (after_held opened parted) (sym k ∙ is) ∙ e)) ∙ i

        pub ending_component : kind ≡ Component → Ending false true (at + 1)
        ending_component is = ending-on Component false true is (held_component opened parted)

        -- the element may end here, if no needless mark stands before
        module _ (marked : Bool) (m : marked ≡ parted) (is : kind ≡ Element) where
          pub ending_element : marked ≡ false → Ending true false (at + 1)
          ending_element e = ending-on Element true false is (held_element opened parted ∙ ap (λ (x : Bool). pick x Dead Opened) (sym m ∙ e))

          pub ending_parted : marked ≡ true → length bs ≡ wanted
          ending_parted e = ap (or_length bs) (ending-by Element Dead is (held_element opened parted ∙ ap (λ (x : Bool). pick x Dead Opened) (sym m ∙ e)))

        -- and so may the segment
        module _ (marked : Bool) (m : marked ≡ marked_by s bs next at (was-opened || was-parted)) (is : kind ≡ Terminator) where
          pub ending_found : marked ≡ false → at ≡ wanted
          ending_found e =
              ap (or_length bs) (ending-by Terminator Start is (held_terminator opened parted ∙ ap (λ (x : Bool). pick x Dead Start) (either ∙ sym m ∙ e)))

          pub ending_marked : marked ≡ true → length bs ≡ wanted
          ending_marked e =
              ap (or_length bs) (ending-by Terminator Dead is (held_terminator opened parted ∙ ap (λ (x : Bool). pick x Dead Start) (either ∙ sym m ∙ e)))

        pub ending_plain : kind ≡ Plain → Ending false false (at + 1)
        ending_plain is = ending-on Plain false false is (held_plain opened parted)

        pub ending_bad : kind ≡ Other → length bs ≡ wanted
        ending_bad is = ap (or_length bs) (ending-by Other Dead is (held_other opened parted))

        -- a release: the byte behind it decides
        behind-release : kind ≡ Release → end_on s Released (at + 1) (drop (at + 1) bs) ≡ end_on s Opened from (drop from bs)
        behind-release is = ending-by Release Released is (held_release opened parted)

        pub ending_released : kind ≡ Release → (ltb (at + 1) (length bs) && must_release s (get_or bs (at + 1) 0)) ≡ true → Ending false false (at + 2)
        ending_released is e = go (ltb (at + 1) (length bs)) (must_release s (get_or bs (at + 1) 0)) refl refl e
          where
            go : (x y : Bool) → ltb (at + 1) (length bs) ≡ x → must_release s (get_or bs (at + 1) 0) ≡ y → (x && y) ≡ true → Ending false false (at + 2)
            go true true a b c =
                end_at Inside (at + 2) (at + 1 + 1) (omega arith)
                ∙ sym (end_turn Released Inside (at + 1) (ltb-true _ _ a) (after_release s (get_or bs (at + 1) 0) ∙ ap (λ (z : Bool). pick z Inside Dead) b))
                ∙ behind-release is
            go true false a b c = absurd (true≢false (sym c))
            go false y a b c = absurd (true≢false (sym c))

        pub ending_unreleased : kind ≡ Release → (ltb (at + 1) (length bs) && must_release s (get_or bs (at + 1) 0)) ≡ false → length bs ≡ wanted
        ending_unreleased is e =
            ap (or_length bs) (sym (go (ltb (at + 1) (length bs)) (must_release s (get_or bs (at + 1) 0)) refl refl e) ∙ behind-release is)
          where
            go : (x y : Bool) → ltb (at + 1) (length bs) ≡ x → must_release s (get_or bs (at + 1) 0) ≡ y → (x && y) ≡ false
                → end_on s Released (at + 1) (drop (at + 1) bs) ≡ None
            go true true a b c = absurd (true≢false c)
            go true false a b c =
                end_turn Released Dead (at + 1) (ltb-true _ _ a) (after_release s (get_or bs (at + 1) 0) ∙ ap (λ (z : Bool). pick z Inside Dead) b)
            go false y a b c = end_out Released (at + 1) (ltb-false _ _ a)

  -- ---- the byte behind a tag

  module _ (at : ℕ) (h : at + 4 ≤ length bs) (tag : segment_end s bs at ≡ end_on s Tagged (at + 3) (drop (at + 3) bs))
      (kind : Kind) (k : kind ≡ kind_of s (get_or bs (at + 3) 0)) where
    -- behind the mark that opens the first element: what is found, by its number
    module _ (is : kind ≡ Element) (n : ℕ) (e : n ≡ or_length bs (end_on s Opened (at + 4) (drop (at + 4) bs))) where
      on-opened : segment_end s bs at ≡ end_on s Opened (at + 4) (drop (at + 4) bs)
      on-opened =
          tag ∙ end_turn Tagged Opened (at + 3) (omega arith) (ap after_tagged (sym k ∙ is)) ∙ end_at Opened (at + 3 + 1) (at + 4) (omega arith)

      -- the terminator's place, which is less than the length; or the length, which is no terminator's place
      told : (end : Option ℕ) → end_on s Opened (at + 4) (drop (at + 4) bs) ≡ end → (n < length bs → Some n ≡ end) × (length bs ≤ n → None ≡ end)
      told (Some end) i =
          let w = end_on_within s Opened (at + 4) end (drop (at + 4) bs) i in
          let j : n ≡ end = e ∙ ap (or_length bs) i in
          (λ l. ap Some j, λ l. let x = w.inside in absurd (omega (arith, length-drop (at + 4) bs)))
      told None i = let j : n ≡ length bs = e ∙ ap (or_length bs) i in (λ l. absurd (omega arith), λ l. refl)

      pub tagged_opened : n < length bs → Some n ≡ segment_end s bs at
      tagged_opened l = (told (segment_end s bs at) (sym on-opened)).0 l

      pub tagged_unended : length bs ≤ n → None ≡ segment_end s bs at
      tagged_unended l = (told (segment_end s bs at) (sym on-opened)).1 l

    pub tagged_found : kind ≡ Terminator → Some (at + 3) ≡ segment_end s bs at
    tagged_found is = sym (tag ∙ end_turn Tagged Start (at + 3) (omega arith) (ap after_tagged (sym k ∙ is)))

    pub tagged_bad : after_tagged kind ≡ Dead → None ≡ segment_end s bs at
    tagged_bad e = sym (tag ∙ end_turn Tagged Dead (at + 3) (omega arith) (ap after_tagged (sym k) ∙ e))

-- ---- a tag

module _ (bs : List ℕ) (at : ℕ) where
  pub tag_there : (t : Bool) → TagOrNone bs at t → not t ≡ false → TagOrNone bs at true
  tag_there true h e = h
  tag_there false h e = absurd (true≢false e)

  pub tag_missing : (t : Bool) → TagOrNone bs at t → not t ≡ true → TagOrNone bs at false
  tag_missing true h e = absurd (true≢false (sym e))
  tag_missing false h e = h

  pub tag_short : length bs < at + 4 → TagOrNone bs at false
  tag_short h s = go (segment_end s bs at) refl
    where
      go : (x : Option ℕ) → segment_end s bs at ≡ x → x ≡ None
      go (Some end) i = let w = end_within s bs at end i in let a = w.behind in let b = w.inside in absurd (omega arith)
      go None i = refl

  module _ (h : at + 4 ≤ length bs) where
    pub tag_bad_first : is_tag_byte (get_or bs at 0) ≡ false → TagOrNone bs at false
    tag_bad_first e s = end_turn s bs Start Dead at (omega arith) (ap (λ (t : Bool). after_tag t Second) e)

    module _ (first : is_tag_byte (get_or bs at 0) ≡ true) where
      to-second : (s : Service) → segment_end s bs at ≡ end_on s Second (at + 1) (drop (at + 1) bs)
      to-second s = end_turn s bs Start Second at (omega arith) (ap (λ (t : Bool). after_tag t Second) first)

      pub tag_bad_second : is_tag_byte (get_or bs (at + 1) 0) ≡ false → TagOrNone bs at false
      tag_bad_second e s = to-second s ∙ end_turn s bs Second Dead (at + 1) (omega arith) (ap (λ (t : Bool). after_tag t Third) e)

      module _ (second : is_tag_byte (get_or bs (at + 1) 0) ≡ true) where
        to-third : (s : Service) → segment_end s bs at ≡ end_on s Third (at + 2) (drop (at + 2) bs)
        to-third s =
            to-second s ∙ end_turn s bs Second Third (at + 1) (omega arith) (ap (λ (t : Bool). after_tag t Third) second)
            ∙ end_at s bs Third (at + 1 + 1) (at + 2) (omega arith)

        -- the third byte decides
        pub tag_third : (t : Bool) → t ≡ is_tag_byte (get_or bs (at + 2) 0) → TagOrNone bs at t
        tag_third true e = (
          h,
          λ s. to-third s ∙ end_turn s bs Third Tagged (at + 2) (omega arith) (ap (λ (t : Bool). after_tag t Tagged) (sym e))
              ∙ end_at s bs Tagged (at + 2 + 1) (at + 3) (omega arith),
        )
        tag_third false e = λ s. to-third s ∙ end_turn s bs Third Dead (at + 2) (omega arith) (ap (λ (t : Bool). after_tag t Tagged) (sym e))

-- ---- for the functions that they are about

pub ruleset tag_steps = (tag_short, tag_bad_first, tag_bad_second, tag_third)

pub ruleset tagged_steps = (tag_there, tag_missing, tagged_opened, tagged_unended, tagged_found, tagged_bad)

pub ruleset ending_steps =
    (ending_none, ending_component, ending_element, ending_parted, ending_found, ending_marked, ending_released, ending_unreleased, ending_plain, ending_bad, ending_out)
