-- What the pass over the homes keeps: from a segment on, in an instance with what has been seen in it, it finds what the instances that
-- are left come to. And line by line: a row that is kept leaves the first finding to the rest, and one that is not is the first finding.
use Rattle.std.proofs.Common.{ℕ, suc, ◌+◌, ◌-◌, ◌≤◌, ◌<◌, ◌^◌, List, [], ◌∷◌, Bool, true, false, not, cond, ◌&&◌, eqb, length, get_or, drop, ◌≡◌, refl, sym, ap, ◌∙◌, add-one, arith, drop-cons, Option, Some, None, IfSome, unwrap_or, Ok, Err}
use lib.ListN.{drop_of_length-le}
use borrow.Author.Tests.{eq-eqb, ne_eqb, lt-ltb}
use Rattle.std.proofs.lemmas.List.{take_min}
use Rattle.std.specs.Option.{option_or}
use Rattle.std.specs.Bool.{then_some}
use Rattle.guide.specs.meaning.Guide.{Guide}
use Rattle.rules.specs.method.Scanning.{Instance, instance_of, noted, begun, instances_from, behind_first, instances_in, watch_of, is_idle, report_in, Outcome, first_found, scanned_in, scanned_line, scanned_from, scanned_row}
use Rattle.rules.specs.method.Passing.{IsSegment, reported_at}
use Rattle.rules.specs.declared.watch.Watch.{Watch}
use Rattle.rules.specs.declared.finding.Finding.{Finding}

-- ---- numbers and none

-- a segment up to the one with number n, or none
abbrev pub IsSegmentUpTo : ℕ → Option ℕ → Type 0
IsSegmentUpTo n o = IfSome o (λ t. (0 < t) × (t ≤ n))

pub segment_fits : (n : ℕ) (o : Option ℕ) → n < 2 ^ 32 → IsSegmentUpTo n o → IsSegment o
segment_fits n None h i = tt
segment_fits n (Some t) h i = (i.0, let q = i.1 in omega arith)

segment_before : (n : ℕ) (o : Option ℕ) → IsSegmentUpTo n o → IsSegmentUpTo (n + 1) o
segment_before n None i = tt
segment_before n (Some t) i = (i.0, let q = i.1 in omega arith)

-- a trigger that shows the line itself
shown : (b : Bool) (j : ℕ) → unwrap_or (then_some b j) 0 ≡ cond b j 0
shown true j = refl
shown false j = refl

shown_up_to : (b : Bool) (n : ℕ) → IsSegmentUpTo (n + 1) (then_some b (n + 1))
shown_up_to true n = (omega arith, omega arith)
shown_up_to false n = tt

-- a segment that shows the line: the first one seen stays
first_seen : (n : ℕ) (o : Option ℕ) → IsSegmentUpTo n o → unwrap_or (option_or o (Some (n + 1))) 0 ≡ cond (eqb (unwrap_or o 0) 0) (n + 1) (unwrap_or o 0)
first_seen n None i = refl
first_seen n (Some t) i = rw (ne_eqb t 0 (let q = i.0 in omega arith)) refl

seen_up_to : (n : ℕ) (o : Option ℕ) → IsSegmentUpTo n o → IsSegmentUpTo (n + 1) (option_or o (Some (n + 1)))
seen_up_to n None i = (omega arith, omega arith)
seen_up_to n (Some t) i = segment_before n (Some t) i

-- ---- from a segment on, in one line

nothing_more : (x : Outcome) → first_found x (Ok tt) ≡ x
nothing_more (Ok u) = refl
nothing_more (Err f) = refl

module _ (w : Watch) (l : ℕ) (hs : List ℕ) where
  -- what stands before the first trigger of a group is none of its instances
  abbrev told : ℕ → List Instance → List Instance
  told t is = cond (eqb t 0 && not (eqb w.trigger 0)) (behind_first is) is

  -- in instance t, where `seen` has been seen in it and j segments are passed
  abbrev pub found_from : ℕ → ℕ → ℕ → Outcome
  found_from t seen j = scanned_in w l (told t (instances_from w.trigger w.sign t seen (suc j) (drop j hs))) (Ok tt)

  line_begins : is_idle w ≡ false → found_from 0 0 0 ≡ scanned_line w l hs (Ok tt)
  line_begins e = rw e (go (eqb w.trigger 0))
    where
      go : (root : Bool) → scanned_in w l (cond (not root) (behind_first (instances_from w.trigger w.sign 0 0 1 hs)) (instances_from w.trigger w.sign 0 0 1 hs)) (Ok tt)
          ≡ scanned_in w l (cond root (instances_from w.trigger w.sign 0 0 1 hs) (behind_first (instances_from w.trigger w.sign 0 0 1 hs))) (Ok tt)
      go true = refl
      go false = refl

  one_more : (t seen : ℕ) (is : List Instance) → scanned_in w l (told t (instance_of t seen ∷ is)) (Ok tt) ≡ first_found (reported_at w l t seen) (scanned_in w l is (Ok tt))
  unfolding scanned_in
  one_more t seen is = go (eqb t 0 && not (eqb w.trigger 0))
    where
      go : (none : Bool) → scanned_in w l (cond none is (instance_of t seen ∷ is)) (Ok tt)
          ≡ first_found (cond none (Ok tt) (report_in w l (instance_of t seen))) (scanned_in w l is (Ok tt))
      go true = refl
      go false = refl

  at_trigger : (t seen j : ℕ) → j < length hs → get_or hs j 0 ≡ w.trigger
      → found_from t seen j ≡ first_found (reported_at w l t seen) (found_from (j + 1) (begun w.trigger w.sign (j + 1)) (j + 1))
  unfolding instances_from
  at_trigger t seen j h e =
      rw (drop-cons hs j 0, eq-eqb (get_or hs j 0) w.trigger e, add-one j, ne_eqb (suc j) 0 (λ z. let q : suc j ≡ 0 = z in omega arith))
      (one_more t seen (instances_from w.trigger w.sign (suc j) (begun w.trigger w.sign (suc j)) (suc (suc j)) (drop (suc j) hs)))

  at_other : (t seen j : ℕ) → j < length hs → (get_or hs j 0 ≡ w.trigger → ⊥)
      → found_from t seen j ≡ found_from t (noted (get_or hs j 0) w.sign seen (j + 1)) (j + 1)
  unfolding instances_from
  at_other t seen j h n = rw (drop-cons hs j 0, ne_eqb (get_or hs j 0) w.trigger n, add-one j) refl

  at_end : (t seen j : ℕ) → length hs ≤ j → found_from t seen j ≡ reported_at w l t seen
  unfolding instances_from scanned_in
  at_end t seen j h = rw (drop_of_length-le hs h) (one_more t seen [] ∙ nothing_more (reported_at w l t seen))

  -- ---- what the loop keeps

  -- what is found from here on is what is found in all
  pub record Passes (instance seen : Option ℕ) (at : ℕ) : Type 0 where
    pub found : found_from (unwrap_or instance 0) (unwrap_or seen 0) at ≡ scanned_line w l hs (Ok tt)
    pub in_instance : IsSegmentUpTo at instance
    pub was_seen : IsSegmentUpTo at seen

  pub pass_begins : is_idle w ≡ false → Passes None None 0
  pass_begins e = record { found = line_begins e; in_instance = tt; was_seen = tt }

  module _ (instance seen : Option ℕ) (at : ℕ) (p : Passes instance seen at) where
    pub pass_stops : (f : Finding) → at < length hs → get_or hs at 0 ≡ w.trigger
        → Err f ≡ reported_at w l (unwrap_or instance 0) (unwrap_or seen 0) → Err f ≡ scanned_line w l hs (Ok tt)
    pass_stops f h e r =
        ap (λ (x : Outcome). first_found x (found_from (at + 1) (begun w.trigger w.sign (at + 1)) (at + 1))) r
        ∙ sym (at_trigger (unwrap_or instance 0) (unwrap_or seen 0) at h e) ∙ p.found

    pub pass_trigger : at < length hs → get_or hs at 0 ≡ w.trigger → Ok tt ≡ reported_at w l (unwrap_or instance 0) (unwrap_or seen 0)
        → Passes (Some (at + 1)) (then_some (eqb (get_or hs at 0) w.sign) (at + 1)) (at + 1)
    pass_trigger h e r =
        record {
          found =
              ap (λ (z : ℕ). found_from (at + 1) z (at + 1))
              (shown (eqb (get_or hs at 0) w.sign) (at + 1) ∙ ap (λ (t : ℕ). cond (eqb t w.sign) (at + 1) 0) e)
              ∙ ap (λ (x : Outcome). first_found x (found_from (at + 1) (begun w.trigger w.sign (at + 1)) (at + 1))) r
              ∙ sym (at_trigger (unwrap_or instance 0) (unwrap_or seen 0) at h e) ∙ p.found;
          in_instance = (omega arith, omega arith);
          was_seen = shown_up_to (eqb (get_or hs at 0) w.sign) at;
        }

    pub pass_sign : at < length hs → (get_or hs at 0 ≡ w.trigger → ⊥) → get_or hs at 0 ≡ w.sign → Passes instance (option_or seen (Some (at + 1))) (at + 1)
    pass_sign h n e =
        record {
          found =
              ap (λ (z : ℕ). found_from (unwrap_or instance 0) z (at + 1))
              (first_seen at seen p.was_seen
              ∙ ap (λ (b : Bool). cond (b && eqb (unwrap_or seen 0) 0) (at + 1) (unwrap_or seen 0)) (sym (eq-eqb (get_or hs at 0) w.sign e)))
              ∙ sym (at_other (unwrap_or instance 0) (unwrap_or seen 0) at h n) ∙ p.found;
          in_instance = segment_before at instance p.in_instance;
          was_seen = seen_up_to at seen p.was_seen;
        }

    pub pass_other : at < length hs → (get_or hs at 0 ≡ w.trigger → ⊥) → (get_or hs at 0 ≡ w.sign → ⊥) → Passes instance seen (at + 1)
    pass_other h n m =
        record {
          found =
              ap (λ (b : Bool). found_from (unwrap_or instance 0) (cond (b && eqb (unwrap_or seen 0) 0) (at + 1) (unwrap_or seen 0)) (at + 1))
              (sym (ne_eqb (get_or hs at 0) w.sign m))
              ∙ sym (at_other (unwrap_or instance 0) (unwrap_or seen 0) at h n) ∙ p.found;
          in_instance = segment_before at instance p.in_instance;
          was_seen = segment_before at seen p.was_seen;
        }

    pub pass_ends : length hs ≤ at → reported_at w l (unwrap_or instance 0) (unwrap_or seen 0) ≡ scanned_line w l hs (Ok tt)
    pass_ends h = sym (at_end (unwrap_or instance 0) (unwrap_or seen 0) at h) ∙ p.found

-- ---- line by line

first_of_both : (x y z : Outcome) → first_found (first_found x y) z ≡ first_found x (first_found y z)
first_of_both (Ok u) y z = refl
first_of_both (Err f) y z = refl

scanned_apart : (w : Watch) (l : ℕ) (is : List Instance) (rest : Outcome) → scanned_in w l is rest ≡ first_found (scanned_in w l is (Ok tt)) rest
unfolding scanned_in
scanned_apart w l [] rest = refl
scanned_apart w l (i ∷ is) rest =
    ap (first_found (report_in w l i)) (scanned_apart w l is rest) ∙ sym (first_of_both (report_in w l i) (scanned_in w l is (Ok tt)) rest)

line_apart : (w : Watch) (l : ℕ) (hs : List ℕ) (rest : Outcome) → scanned_line w l hs rest ≡ first_found (scanned_line w l hs (Ok tt)) rest
line_apart w l hs rest = go (is_idle w)
  where
    go : (idle : Bool) → cond idle rest (scanned_in w l (instances_in w.trigger w.sign hs) rest)
        ≡ first_found (cond idle (Ok tt) (scanned_in w l (instances_in w.trigger w.sign hs) (Ok tt))) rest
    go true = refl
    go false = scanned_apart w l (instances_in w.trigger w.sign hs) rest

module _ (g : Guide) (p : ℕ) (cs hs : List ℕ) where
  -- what is found from line l on
  abbrev pub rows_from : ℕ → Outcome
  rows_from l = scanned_from g p cs hs l (suc g.lines - l)

  rows_next : (l : ℕ) → l ≤ g.lines → rows_from l ≡ first_found (scanned_line (watch_of g p cs l) l hs (Ok tt)) (rows_from (l + 1))
  unfolding scanned_from
  rows_next l h =
      let e : suc g.lines - l ≡ suc (suc g.lines - (l + 1)) = omega arith in
      ap (scanned_from g p cs hs l) e
      ∙ ap (λ (m : ℕ). scanned_line (watch_of g p cs l) l hs (scanned_from g p cs hs m (suc g.lines - (l + 1)))) (sym (add-one l))
      ∙ line_apart (watch_of g p cs l) l hs (rows_from (l + 1))

  pub rows_end : (l : ℕ) → g.lines < l → rows_from l ≡ Ok tt
  unfolding scanned_from
  rows_end l h = let e : suc g.lines - l ≡ 0 = omega arith in ap (scanned_from g p cs hs l) e

  pub row_kept : (l : ℕ) (w : Watch) → l ≤ g.lines → w ≡ watch_of g p cs l → Ok tt ≡ scanned_line w l hs (Ok tt) → rows_from (l + 1) ≡ rows_from l
  row_kept l w h e k =
      ap (λ (x : Outcome). first_found x (rows_from (l + 1))) (k ∙ ap (λ (v : Watch). scanned_line v l hs (Ok tt)) e) ∙ sym (rows_next l h)

  pub row_broken : (l : ℕ) (w : Watch) (f : Finding) → l ≤ g.lines → w ≡ watch_of g p cs l → Err f ≡ scanned_line w l hs (Ok tt) → Err f ≡ rows_from l
  row_broken l w f h e k =
      ap (λ (x : Outcome). first_found x (rows_from (l + 1))) (k ∙ ap (λ (v : Watch). scanned_line v l hs (Ok tt)) e) ∙ sym (rows_next l h)

  pub rows_begin : rows_from 1 ≡ scanned_from g p cs hs 1 g.lines
  rows_begin = let e : suc g.lines - 1 ≡ g.lines = omega arith in ap (scanned_from g p cs hs 1) e

  -- of a Prüfidentifikator that the book has
  pub rows_of_some : p < g.identifiers → scanned_from g p cs hs 1 g.lines ≡ scanned_row g p cs hs
  rows_of_some h = sym (ap (λ (b : Bool). cond b (scanned_from g p cs hs 1 g.lines) (Ok tt)) (lt-ltb p g.identifiers h))

pub ruleset passes = (segment_fits, pass_begins, pass_stops, pass_trigger, pass_sign, pass_other, pass_ends)

pub ruleset rows = (take_min, rows_begin, rows_of_some, row_kept, row_broken, rows_end)
