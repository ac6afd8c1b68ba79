-- What the check has found decides whether a book is good. And what a good header leaves to the rules after it.
use Prim.Native.Nat.{ℕ, ◌*◌}
use native.Mathlib.Omega.{arith}
use native.Mathlib.Nat.{mul-le-mul_right}
use mathlib.Core.Path.{◌≡◌, refl}
use mathlib.Core.List.{List}
use mathlib.Core.Bool.{true, false}
use Rattle.guide.specs.meaning.Header.{edition_number, line_total, code_total, identifier_total}
use Rattle.guide.specs.meaning.Guide.{guide_of}
use Rattle.guide.proofs.Editions.{sizes_within}
use Rattle.book.specs.meaning.Rule.{Holds}
use Rattle.book.specs.method.Run.{run}
use Rattle.book.specs.meaning.GoodBook.{GoodBook, Judged, length_rule, counts_rule, code_range_rule, range_rule, one_home_rule}
use Rattle.book.specs.method.Each.{line_rule, identifier_rule, row_rule, structure_rule, Small, Within, header_rule, records_rule, home_rule, framed_rule}
use Rattle.book.proofs.Rules.{run_holds, run_fails}

malformed : {bs : List ℕ} → (GoodBook bs → ⊥) → Judged bs 1
malformed bad = record { accepted = λ e. absurd (omega arith); good = λ g. absurd (bad g); malformed = λ _. refl }

module _ (bs : List ℕ) where
  good_header : GoodBook bs → Holds (header_rule bs)
  unfolding header_rule
  good_header g = (g.edition, (g.blocks, (g.long, g.counts)))

  good_records : GoodBook bs → Holds (records_rule (guide_of bs))
  unfolding records_rule line_rule identifier_rule row_rule
  good_records g = (
    λ l a b. (
      (g.kinds l a b, (g.depths l a b, g.tags l a b)),
      (
        (g.requireds l a b, (g.selectors l a b, g.code_ranges l a b)),
        (g.maxima l a b, (g.field_ranges l a b, g.plain_groups l a b)),
      ),
    ),
    (
      g.codes,
      (g.fields, (λ p a b. (g.identifiers p a b, g.rising_identifiers p a b), λ r a b. (g.rows r a b, (g.row_ends r a b, g.required_rows r a b)))),
    ),
  )

  good_frame : GoodBook bs → Holds (framed_rule (guide_of bs))
  unfolding framed_rule structure_rule home_rule one_home_rule
  good_frame g = (
    g.frames,
    (
      g.carrier,
      (
        λ l a b. ((g.rising_fields l a b, (g.triggers l a b, g.falls l a b)), (g.only_frames l a b, g.carrier_groups l a b)),
        λ m a b l p q. g.one_home l p (omega arith) m (omega arith) (omega arith),
      ),
    ),
  )

  good_book : Holds (header_rule bs) → Holds (records_rule (guide_of bs)) → Holds (framed_rule (guide_of bs)) → GoodBook bs
  unfolding header_rule records_rule framed_rule line_rule identifier_rule row_rule structure_rule home_rule one_home_rule
  good_book h r f =
      record {
        edition = h.0;
        blocks = h.1.0;
        long = h.1.1.0;
        counts = h.1.1.1;
        kinds = λ l a b. (r.0 l a b).0.0;
        depths = λ l a b. (r.0 l a b).0.1.0;
        tags = λ l a b. (r.0 l a b).0.1.1;
        requireds = λ l a b. (r.0 l a b).1.0.0;
        selectors = λ l a b. (r.0 l a b).1.0.1.0;
        code_ranges = λ l a b. (r.0 l a b).1.0.1.1;
        maxima = λ l a b. (r.0 l a b).1.1.0;
        field_ranges = λ l a b. (r.0 l a b).1.1.1.0;
        plain_groups = λ l a b. (r.0 l a b).1.1.1.1;
        codes = r.1.0;
        fields = r.1.1.0;
        rising_fields = λ l a b. (f.1.1.0 l a b).0.0;
        identifiers = λ p a b. (r.1.1.1.0 p a b).0;
        rising_identifiers = λ p a b. (r.1.1.1.0 p a b).1;
        rows = λ k a b. (r.1.1.1.1 k a b).0;
        row_ends = λ k a b. (r.1.1.1.1 k a b).1.0;
        triggers = λ l a b. (f.1.1.0 l a b).0.1.0;
        falls = λ l a b. (f.1.1.0 l a b).0.1.1;
        frames = f.0;
        only_frames = λ l a b. (f.1.1.0 l a b).1.0;
        one_home = λ l a b m p q. f.1.1.1 m (omega arith) (omega arith) l a (omega arith);
        carrier = f.1.0;
        carrier_groups = λ l a b. (f.1.1.0 l a b).1.1;
        required_rows = λ k a b. (r.1.1.1.1 k a b).1.1;
      }

  -- a book whose rules all run is good
  pub runs_good : run (header_rule bs) ≡ true → run (records_rule (guide_of bs)) ≡ true → run (framed_rule (guide_of bs)) ≡ true → GoodBook bs
  runs_good h r f = good_book (run_holds (header_rule bs) h) (run_holds (records_rule (guide_of bs)) r) (run_holds (framed_rule (guide_of bs)) f)

  -- counts that the book has room for
  pub header_small : run (header_rule bs) ≡ true → Small (guide_of bs)
  unfolding header_rule length_rule counts_rule guide_of
  header_small e =
      let h = run_holds (header_rule bs) e in
      let most = h.1.1.0.0 in
      let total = h.1.1.0.1.1 in
      let some = h.1.1.1.1.0 in
      let sizes = sizes_within (edition_number bs) in
      let row-bytes = mul-le-mul_right (identifier_total bs * line_total bs) sizes.wide_row in
      let code_bytes = mul-le-mul_right (code_total bs) sizes.wide_code in
      record { some_lines = omega arith; rows = omega arith; codes = omega arith }

  -- and lines whose codes stay inside their block
  pub records_within : Small (guide_of bs) → run (records_rule (guide_of bs)) ≡ true → Within (guide_of bs)
  unfolding records_rule line_rule code_range_rule range_rule
  records_within small e = record { small = small; line_codes = λ l a b. ((run_holds (records_rule (guide_of bs)) e).0 l a (omega arith)).1.0.1.1.0 }

  pub header_bad : run (header_rule bs) ≡ false → Judged bs 1
  header_bad e = malformed (λ g. run_fails (header_rule bs) e (good_header g))

  pub records_bad : run (records_rule (guide_of bs)) ≡ false → Judged bs 1
  records_bad e = malformed (λ g. run_fails (records_rule (guide_of bs)) e (good_records g))

  pub frame_bad : run (framed_rule (guide_of bs)) ≡ false → Judged bs 1
  frame_bad e = malformed (λ g. run_fails (framed_rule (guide_of bs)) e (good_frame g))

  pub all_good : run (header_rule bs) ≡ true → run (records_rule (guide_of bs)) ≡ true → run (framed_rule (guide_of bs)) ≡ true → Judged bs 0
  all_good h r f = record { accepted = λ _. runs_good h r f; good = λ _. refl; malformed = λ n. absurd (n refl) }
