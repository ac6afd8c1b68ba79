-- One segment: the machine reads to a terminator exactly over what is written of a valid segment, whatever follows it.
-- Message, cursor and lookup share this law; what is left behind the terminator is its parameter.
use Prim.Native.Nat.{ℕ}
use mathlib.Core.Path.{◌≡◌, refl, sym, ap, ◌∙◌}
use mathlib.Core.List.{List, [], ◌∷◌}
use mathlib.Core.Option.{Option, some, none}
use mathlib.Core.Bool.{Bool, true, false, true≢false}
use Rattle.reading.specs.meaning.Service.{All, GoodService, is_data, is_tag_byte, must_release}
use Rattle.reading.specs.meaning.Message.{released, HasBytes, Last, EndsInBytes, ValidComponent, ValidElement, ValidSegment, write_component, write_more, write_elements, write_segment}
use Rattle.reading.specs.meaning.Message as message
use Rattle.reading.specs.method.Machine.{pick, kind_of, after_tag, after_tagged, after_opened, after_parted, after_inside, after_released, stepped, is_start, is_dead}
use Rattle.reading.specs.declared.service.Service.{Service}
use Rattle.reading.specs.declared.bytes.Kind.{Kind}
use Rattle.reading.specs.declared.bytes.Kind.TheVariants.{Component, Element, Terminator, Release, Plain, Other}
use Rattle.reading.specs.declared.machine.State.{State}
use Rattle.reading.specs.declared.machine.State.TheVariants.{Start, Second, Third, Tagged, Opened, Parted, Inside, Released, Dead}
use Rattle.reading.proofs.States.{Course, ends, goes_on, fails, course}
use Rattle.reading_laws.proofs.Lists.{last_of}
use Rattle.reading_laws.proofs.Services.{Seen, see, component_data, element_data, release_data, terminator_data, kind_release, kind_component, kind_element, kind_terminator}
use Rattle.reading_laws.proofs.Services.Seen.{component, element, terminator, release, plain, other}

-- what is left behind the terminator that is read next
unfoldable pub behind : Service → State → List ℕ → Option (List ℕ)
behind s p [] = none
behind s p (b ∷ bs) = pick (is_start (stepped s p b)) (some bs) (pick (is_dead (stepped s p b)) none (behind s (stepped s p b) bs))

abbrev is_some : Option (List ℕ) → Bool
is_some (some rest) = true
is_some none = false

pub none_some : {rest : List ℕ} → none ≡ some rest → ⊥
none_some e = true≢false (sym (ap is_some e))

abbrev the : Option (List ℕ) → List ℕ
the (some rest) = rest
the none = []

pub some_is : {xs ys : List ℕ} → some xs ≡ some ys → xs ≡ ys
some_is e = ap the e

module _ (s : Service) where
  pub behind_step : (p q : State) (b : ℕ) (bs : List ℕ) → stepped s p b ≡ q
      → behind s p (b ∷ bs) ≡ pick (is_start q) (some bs) (pick (is_dead q) none (behind s q bs))
  unfolding behind
  behind_step p q b bs e = ap (λ (x : State). pick (is_start x) (some bs) (pick (is_dead x) none (behind s x bs))) e

module _ (s : Service) (good : GoodService s) where
  -- ---- over what is written, the terminator is found

  -- where data may stand, and the next component's mark: behind either mark, and behind data
  data Open : State → Type 0 where
    opened : Open Opened
    parted : Open Parted
    inside : Open Inside

  open_step : {p : State} → Open p → (b : ℕ) (k : Kind) (q : State) → kind_of s b ≡ k → after_opened k ≡ q → after_parted k ≡ q → after_inside k ≡ q → stepped s p b ≡ q
  open_step opened b k q e x y z = ap after_opened e ∙ x
  open_step parted b k q e x y z = ap after_parted e ∙ y
  open_step inside b k q e x y z = ap after_inside e ∙ z

  open_plain : {p : State} → Open p → (b : ℕ) → kind_of s b ≡ Plain → stepped s p b ≡ Inside
  open_plain o b e = open_step o b Plain Inside e refl refl refl

  open_release : {p : State} → Open p → stepped s p s.release ≡ Released
  open_release o = open_step o s.release Release Released (kind_release s good) refl refl refl

  open_component : {p : State} → Open p → stepped s p s.component ≡ Parted
  open_component o = open_step o s.component Component Parted (kind_component s good) refl refl refl

  behind_released : {p : State} → Open p → (b : ℕ) (rest : List ℕ) → after_released (kind_of s b) ≡ Inside → behind s p (s.release ∷ b ∷ rest) ≡ behind s Inside rest
  behind_released o b rest e = behind_step s _ Released s.release (b ∷ rest) (open_release o) ∙ behind_step s Released Inside b rest e

  behind_byte : {p : State} → Open p → (b : ℕ) (rest : List ℕ) → is_data b ≡ true → behind s p (released (must_release s b) s.release b rest) ≡ behind s Inside rest
  behind_byte {p} o b rest h = go (kind_of s b) refl (see s b)
    where
      go : (k : Kind) → kind_of s b ≡ k → Seen s b k → behind s p (released (must_release s b) s.release b rest) ≡ behind s Inside rest
      go Component e (component _ t) = rw t (behind_released o b rest (ap after_released e))
      go Element e (element _ t) = rw t (behind_released o b rest (ap after_released e))
      go Terminator e (terminator _ t) = rw t (behind_released o b rest (ap after_released e))
      go Release e (release _ t) = rw t (behind_released o b rest (ap after_released e))
      go Plain e (plain _ t) = rw t (behind_step s p Inside b rest (open_plain o b e))
      go Other e (other d t) = absurd (true≢false (sym h ∙ d))

  behind_data : (c : message.Component) (rest : List ℕ) → ValidComponent c → behind s Inside (write_component s c rest) ≡ behind s Inside rest
  unfolding write_component
  behind_data [] rest v = refl
  behind_data (b ∷ bs) rest v = behind_byte inside b (write_component s bs rest) v.0 ∙ behind_data bs rest v.1

  -- a component with bytes
  behind_filled : {p : State} → Open p → (c : message.Component) (rest : List ℕ) → ValidComponent c → HasBytes c → behind s p (write_component s c rest) ≡ behind s Inside rest
  unfolding write_component
  behind_filled o [] rest v h = absurd h
  behind_filled o (b ∷ bs) rest v h = behind_byte o b (write_component s bs rest) v.0 ∙ behind_data bs rest v.1

  -- any component, and the next one's mark
  behind_parted : {p : State} → Open p → (c : message.Component) (rest : List ℕ) → ValidComponent c → behind s p (write_component s c (s.component ∷ rest)) ≡ behind s Parted rest
  unfolding write_component
  behind_parted o [] rest v = behind_step s _ Parted s.component rest (open_component o)
  behind_parted o (b ∷ bs) rest v =
      behind_filled o (b ∷ bs) (s.component ∷ rest) v tt ∙ behind_step s Inside Parted s.component rest (open_component inside)

  -- components of which the last has bytes
  behind_components : {p : State} → Open p → (c : message.Component) (cs : List message.Component) (rest : List ℕ) → ValidComponent c → All ValidComponent cs → Last HasBytes (c ∷ cs)
      → behind s p (write_component s c (write_more s cs rest)) ≡ behind s Inside rest
  unfolding write_more
  behind_components o c [] rest v w h = behind_filled o c rest v h
  behind_components o c (d ∷ ds) rest v w h = behind_parted o c (write_component s d (write_more s ds rest)) v ∙ behind_components parted d ds rest w.0 w.1 h

  -- an element, from its first component on, and the next one's mark
  behind_element_lem : (x : message.Element) (rest : List ℕ) → ValidElement x
      → behind s Opened (write_component s x.first (write_more s x.more (s.element ∷ rest))) ≡ behind s Opened rest
  unfolding write_component write_more
  behind_element_lem x rest v = go x.first x.more v.first v.more v.ended
    where
      mark : behind s Inside (s.element ∷ rest) ≡ behind s Opened rest
      mark = behind_step s Inside Opened s.element rest (ap after_inside (kind_element s good))

      go : (c : message.Component) (cs : List message.Component) → ValidComponent c → All ValidComponent cs → Last HasBytes cs
          → behind s Opened (write_component s c (write_more s cs (s.element ∷ rest))) ≡ behind s Opened rest
      go [] [] v w h = behind_step s Opened Opened s.element rest (ap after_opened (kind_element s good))
      go (b ∷ bs) [] v w h = behind_components opened (b ∷ bs) [] (s.element ∷ rest) v w tt ∙ mark
      go c (d ∷ ds) v w h = behind_components opened c (d ∷ ds) (s.element ∷ rest) v w h ∙ mark

  -- elements of which the last ends in bytes, from the first component on
  behind_opened : (x : message.Element) (xs : List message.Element) (rest : List ℕ) → All ValidElement (x ∷ xs) → Last EndsInBytes (x ∷ xs)
      → behind s Opened (write_component s x.first (write_more s x.more (write_elements s xs (s.terminator ∷ rest)))) ≡ some rest
  unfolding write_elements
  behind_opened x [] rest v h =
      behind_components opened x.first x.more (s.terminator ∷ rest) v.0.first v.0.more h
      ∙ behind_step s Inside Start s.terminator rest (ap after_inside (kind_terminator s good))
  behind_opened x (y ∷ ys) rest v h = behind_element_lem x _ v.0 ∙ behind_opened y ys rest v.1 h

  behind_tagged : (xs : List message.Element) (rest : List ℕ) → All ValidElement xs → Last EndsInBytes xs → behind s Tagged (write_elements s xs (s.terminator ∷ rest)) ≡ some rest
  unfolding write_elements
  behind_tagged [] rest v h = behind_step s Tagged Start s.terminator rest (ap after_tagged (kind_terminator s good))
  behind_tagged (x ∷ xs) rest v h = behind_step s Tagged Opened s.element _ (ap after_tagged (kind_element s good)) ∙ behind_opened x xs rest v h

  pub behind_segment : (g : message.Segment) (rest : List ℕ) → ValidSegment g → behind s Start (write_segment s g rest) ≡ some rest
  behind_segment g rest v =
      behind_step s Start Second g.tag.first _ (ap (λ (t : Bool). after_tag t Second) v.tag.first)
      ∙ behind_step s Second Third g.tag.second _ (ap (λ (t : Bool). after_tag t Third) v.tag.second)
      ∙ behind_step s Third Tagged g.tag.third _ (ap (λ (t : Bool). after_tag t Tagged) v.tag.third)
      ∙ behind_tagged g.elements rest v.elements v.ended

  -- ---- where a terminator is found, a valid segment is written

  -- what is written from each state on, up to the terminator with `rest` behind it
  record FromTagged (rest bs : List ℕ) : Type 0 where
    elements : List message.Element
    valid : All ValidElement elements
    ended : Last EndsInBytes elements
    same : bs ≡ write_elements s elements (s.terminator ∷ rest)

  record FromThird (rest bs : List ℕ) : Type 0 where
    tag : ℕ
    valid : is_tag_byte tag ≡ true
    tail : List ℕ
    after : FromTagged rest tail
    same : bs ≡ tag ∷ tail

  record FromSecond (rest bs : List ℕ) : Type 0 where
    tag : ℕ
    valid : is_tag_byte tag ≡ true
    tail : List ℕ
    after : FromThird rest tail
    same : bs ≡ tag ∷ tail

  pub record FromStart (rest bs : List ℕ) : Type 0 where
    pub segment : message.Segment
    pub valid : ValidSegment segment
    pub same : bs ≡ write_segment s segment rest

  -- within an element: the rest of a component, further components and further elements, that end as they must from there on
  record FromElement (Ended : message.Component → List message.Component → List message.Element → Type 0) (rest bs : List ℕ) : Type 0 where
    first : message.Component
    more : List message.Component
    valid : ValidComponent first × All ValidComponent more
    tail : List ℕ
    after : FromTagged rest tail
    ended : Ended first more after.elements
    same : bs ≡ write_component s first (write_more s more tail)

  -- behind data the component may be over; behind a component's mark the last one has bytes; behind an element's, it is as any element
  -- with others behind it
  abbrev EndedInside : message.Component → List message.Component → List message.Element → Type 0
  EndedInside c cs xs = Last HasBytes cs

  abbrev EndedParted : message.Component → List message.Component → List message.Element → Type 0
  EndedParted c cs xs = Last HasBytes (c ∷ cs)

  abbrev EndedOpened : message.Component → List message.Component → List message.Element → Type 0
  EndedOpened c cs xs = Last HasBytes cs × Last EndsInBytes (record { first = c; more = cs } ∷ xs)

  record FromReleased (rest bs : List ℕ) : Type 0 where
    byte : ℕ
    special : must_release s byte ≡ true
    valid : is_data byte ≡ true
    tail : List ℕ
    after : FromElement EndedInside rest tail
    same : bs ≡ byte ∷ tail

  abbrev From : State → List ℕ → List ℕ → Type 0
  From Start rest bs = FromStart rest bs
  From Second rest bs = FromSecond rest bs
  From Third rest bs = FromThird rest bs
  From Tagged rest bs = FromTagged rest bs
  From Opened rest bs = FromElement EndedOpened rest bs
  From Parted rest bs = FromElement EndedParted rest bs
  From Inside rest bs = FromElement EndedInside rest bs
  From Released rest bs = FromReleased rest bs
  From Dead rest bs = ⊥

  -- after a byte: it was the terminator and the rest is left, or the segment goes on
  abbrev NextBy : Bool → State → List ℕ → List ℕ → Type 0
  NextBy true q rest bs = bs ≡ rest
  NextBy false q rest bs = From q rest bs

  abbrev Next : State → List ℕ → List ℕ → Type 0
  Next q rest bs = NextBy (is_start q) q rest bs

  on_start : (rest : List ℕ) (b : ℕ) (bs : List ℕ) (t : Bool) → is_tag_byte b ≡ t → Next (after_tag t Second) rest bs → FromStart rest (b ∷ bs)
  on_start rest b bs false e f = absurd f
  on_start rest b bs true e f =
      record {
        segment = record { tag = record { first = b; second = f.tag; third = f.after.tag }; elements = f.after.after.elements };
        valid = record { tag = record { first = e; second = f.valid; third = f.after.valid }; elements = f.after.after.valid; ended = f.after.after.ended };
        same = cc (f.same, f.after.same, f.after.after.same);
      }

  on_second : (rest : List ℕ) (b : ℕ) (bs : List ℕ) (t : Bool) → is_tag_byte b ≡ t → Next (after_tag t Third) rest bs → FromSecond rest (b ∷ bs)
  on_second rest b bs false e f = absurd f
  on_second rest b bs true e f = record { tag = b; valid = e; tail = bs; after = f; same = refl }

  on_third : (rest : List ℕ) (b : ℕ) (bs : List ℕ) (t : Bool) → is_tag_byte b ≡ t → Next (after_tag t Tagged) rest bs → FromThird rest (b ∷ bs)
  on_third rest b bs false e f = absurd f
  on_third rest b bs true e f = record { tag = b; valid = e; tail = bs; after = f; same = refl }

  an_element : (rest : List ℕ) (b : ℕ) (bs : List ℕ) → b ≡ s.element → FromElement EndedOpened rest bs → FromTagged rest (b ∷ bs)
  unfolding write_elements
  an_element rest b bs e f =
      record {
        elements = record { first = f.first; more = f.more } ∷ f.after.elements;
        valid = (record { first = f.valid.0; more = f.valid.1; ended = f.ended.0 }, f.after.valid);
        ended = f.ended.1;
        same = cc (e, f.same, f.after.same);
      }

  an_end : (rest : List ℕ) (b : ℕ) (bs : List ℕ) → b ≡ s.terminator → bs ≡ rest → FromTagged rest (b ∷ bs)
  unfolding write_elements
  an_end rest b bs e f = record { elements = []; valid = tt; ended = tt; same = cc (e, f) }

  on_tagged : (rest : List ℕ) (b : ℕ) (bs : List ℕ) (k : Kind) → Seen s b k → Next (after_tagged k) rest bs → FromTagged rest (b ∷ bs)
  on_tagged rest b bs Component (component e t) f = absurd f
  on_tagged rest b bs Element (element e t) f = an_element rest b bs e f
  on_tagged rest b bs Terminator (terminator e t) f = an_end rest b bs e f
  on_tagged rest b bs Release (release e t) f = absurd f
  on_tagged rest b bs Plain (plain d t) f = absurd f
  on_tagged rest b bs Other (other d t) f = absurd f

  -- ---- within an element: what a byte does, however the element has to end

  module _ (Ended : message.Component → List message.Component → List message.Element → Type 0) where
    -- a component with bytes may be the last one
    abbrev Filled : Type 0
    Filled = (b : ℕ) (c : message.Component) (cs : List message.Component) (xs : List message.Element) → Last HasBytes cs → Last EndsInBytes xs → Ended (b ∷ c) cs xs

    -- an empty one may not, but before others
    abbrev Further : Type 0
    Further = (c : message.Component) (cs : List message.Component) (xs : List message.Element) → Last HasBytes (c ∷ cs) → Last EndsInBytes xs → Ended [] (c ∷ cs) xs

    a_plain : Filled → (rest : List ℕ) (b : ℕ) (bs : List ℕ) → is_data b ≡ true → must_release s b ≡ false → FromElement EndedInside rest bs → FromElement Ended rest (b ∷ bs)
    unfolding write_component
    a_plain filled rest b bs d t f =
        record {
          first = b ∷ f.first;
          more = f.more;
          valid = ((d, f.valid.0), f.valid.1);
          tail = f.tail;
          after = f.after;
          ended = filled b f.first f.more f.after.elements f.ended f.after.ended;
          same = rw t (cc f.same);
        }

    a_release : Filled → (rest : List ℕ) (b : ℕ) (bs : List ℕ) → b ≡ s.release → FromReleased rest bs → FromElement Ended rest (b ∷ bs)
    unfolding write_component
    a_release filled rest b bs e f =
        record {
          first = f.byte ∷ f.after.first;
          more = f.after.more;
          valid = ((f.valid, f.after.valid.0), f.after.valid.1);
          tail = f.after.tail;
          after = f.after.after;
          ended = filled f.byte f.after.first f.after.more f.after.after.elements f.after.ended f.after.after.ended;
          same = rw f.special (cc (e, f.same, f.after.same));
        }

    a_component : Further → (rest : List ℕ) (b : ℕ) (bs : List ℕ) → b ≡ s.component → FromElement EndedParted rest bs → FromElement Ended rest (b ∷ bs)
    unfolding write_component write_more
    a_component further rest b bs e f =
        record {
          first = [];
          more = f.first ∷ f.more;
          valid = (tt, f.valid);
          tail = f.tail;
          after = f.after;
          ended = further f.first f.more f.after.elements f.ended f.after.ended;
          same = cc (e, f.same);
        }

    -- one empty component, and no byte of it
    an_empty : (rest bs : List ℕ) (f : FromTagged rest bs) → Ended [] [] f.elements → FromElement Ended rest bs
    unfolding write_component write_more
    an_empty rest bs f h = record { first = []; more = []; valid = (tt, tt); tail = bs; after = f; ended = h; same = refl }

  inside_filled : Filled EndedInside
  inside_filled b c cs xs h k = h

  parted_filled : Filled EndedParted
  parted_filled b c cs xs h k = last_of HasBytes (b ∷ c) cs tt h

  opened_filled : Filled EndedOpened
  opened_filled b c cs xs h k = (h, last_of EndsInBytes (record { first = b ∷ c; more = cs }) xs (parted_filled b c cs xs h k) k)

  opened_further : Further EndedOpened
  opened_further c cs xs h k = (h, last_of EndsInBytes (record { first = []; more = c ∷ cs }) xs h k)

  on_opened : (rest : List ℕ) (b : ℕ) (bs : List ℕ) (k : Kind) → Seen s b k → Next (after_opened k) rest bs → FromElement EndedOpened rest (b ∷ bs)
  unfolding an_element
  on_opened rest b bs Component (component e t) f = a_component EndedOpened opened_further rest b bs e f
  on_opened rest b bs Element (element e t) f = an_empty EndedOpened rest (b ∷ bs) (an_element rest b bs e f) (tt, f.ended.1)
  on_opened rest b bs Terminator (terminator e t) f = absurd f
  on_opened rest b bs Release (release e t) f = a_release EndedOpened opened_filled rest b bs e f
  on_opened rest b bs Plain (plain d t) f = a_plain EndedOpened opened_filled rest b bs d t f
  on_opened rest b bs Other (other d t) f = absurd f

  on_parted : (rest : List ℕ) (b : ℕ) (bs : List ℕ) (k : Kind) → Seen s b k → Next (after_parted k) rest bs → FromElement EndedParted rest (b ∷ bs)
  on_parted rest b bs Component (component e t) f = a_component EndedParted (λ c cs xs h k. h) rest b bs e f
  on_parted rest b bs Element (element e t) f = absurd f
  on_parted rest b bs Terminator (terminator e t) f = absurd f
  on_parted rest b bs Release (release e t) f = a_release EndedParted parted_filled rest b bs e f
  on_parted rest b bs Plain (plain d t) f = a_plain EndedParted parted_filled rest b bs d t f
  on_parted rest b bs Other (other d t) f = absurd f

  on_inside : (rest : List ℕ) (b : ℕ) (bs : List ℕ) (k : Kind) → Seen s b k → Next (after_inside k) rest bs → FromElement EndedInside rest (b ∷ bs)
  on_inside rest b bs Component (component e t) f = a_component EndedInside (λ c cs xs h k. h) rest b bs e f
  on_inside rest b bs Element (element e t) f = an_empty EndedInside rest (b ∷ bs) (an_element rest b bs e f) tt
  on_inside rest b bs Terminator (terminator e t) f = an_empty EndedInside rest (b ∷ bs) (an_end rest b bs e f) tt
  on_inside rest b bs Release (release e t) f = a_release EndedInside inside_filled rest b bs e f
  on_inside rest b bs Plain (plain d t) f = a_plain EndedInside inside_filled rest b bs d t f
  on_inside rest b bs Other (other d t) f = absurd f

  a_released : (rest : List ℕ) (b : ℕ) (bs : List ℕ) → must_release s b ≡ true → is_data b ≡ true → FromElement EndedInside rest bs → FromReleased rest (b ∷ bs)
  a_released rest b bs t d f = record { byte = b; special = t; valid = d; tail = bs; after = f; same = refl }

  on_released : (rest : List ℕ) (b : ℕ) (bs : List ℕ) (k : Kind) → Seen s b k → Next (after_released k) rest bs → FromReleased rest (b ∷ bs)
  on_released rest b bs Component (component e t) f = a_released rest b bs t (ap is_data e ∙ component_data s good) f
  on_released rest b bs Element (element e t) f = a_released rest b bs t (ap is_data e ∙ element_data s good) f
  on_released rest b bs Terminator (terminator e t) f = a_released rest b bs t (ap is_data e ∙ terminator_data s good) f
  on_released rest b bs Release (release e t) f = a_released rest b bs t (ap is_data e ∙ release_data s good) f
  on_released rest b bs Plain (plain d t) f = absurd f
  on_released rest b bs Other (other d t) f = absurd f

  on_byte : (p : State) (rest : List ℕ) (b : ℕ) (bs : List ℕ) → Next (stepped s p b) rest bs → From p rest (b ∷ bs)
  on_byte Start rest b bs f = on_start rest b bs (is_tag_byte b) refl f
  on_byte Second rest b bs f = on_second rest b bs (is_tag_byte b) refl f
  on_byte Third rest b bs f = on_third rest b bs (is_tag_byte b) refl f
  on_byte Tagged rest b bs f = on_tagged rest b bs (kind_of s b) (see s b) f
  on_byte Opened rest b bs f = on_opened rest b bs (kind_of s b) (see s b) f
  on_byte Parted rest b bs f = on_parted rest b bs (kind_of s b) (see s b) f
  on_byte Inside rest b bs f = on_inside rest b bs (kind_of s b) (see s b) f
  on_byte Released rest b bs f = on_released rest b bs (kind_of s b) (see s b) f
  on_byte Dead rest b bs f = f

  next : {q : State} → Course q → (rest bs : List ℕ) → (behind s q bs ≡ some rest → From q rest bs)
      → pick (is_start q) (some bs) (pick (is_dead q) none (behind s q bs)) ≡ some rest → Next q rest bs
  next ends rest bs ih e = some_is e
  next (goes_on t d) rest bs ih e = rw t (ih (rw (t, d) at e))
  next fails rest bs ih e = absurd (none_some e)

  from : (p : State) (rest bs : List ℕ) → behind s p bs ≡ some rest → From p rest bs
  unfolding behind
  from p rest [] e = absurd (none_some e)
  from p rest (b ∷ bs) e = on_byte p rest b bs (next (course (stepped s p b)) rest bs (from (stepped s p b) rest bs) e)

  pub segment_behind : (bs rest : List ℕ) → behind s Start bs ≡ some rest → FromStart rest bs
  segment_behind bs rest e = from Start rest bs e
