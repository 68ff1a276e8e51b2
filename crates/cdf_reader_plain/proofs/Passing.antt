-- The place past the last unit fits, and so does every place that SKIP, GET_STREAM and PREVIOUS return with 0. Past a root there is
-- nothing; and how many bytes there are is all that SKIP and GET_STREAM ask of them.
use Rattle.std.proofs.Common.{ℕ, ◌≡◌, refl, ◌∙◌, Bool, true, false, not, ◌&&◌, List, [], ◌∷◌, arith, eqb-true, ne_eqb, eqb, length}
use Rattle.std.proofs.lemmas.Bool.{false≢true, not-false}
use Rattle.cdf_unit_table.specs.States.{unit_of, nothing, skipped}
use Rattle.cdf_unit_table.proofs.Bools.{both, of_cond}
use Rattle.cdf_unit_table.proofs.Skipping.{skipped_unit, skipped_complete}
use Rattle.cdf_unit_prefix.specs.Layout.{Layout}
use Rattle.cdf_unit_list.specs.Stack.{close, Step, done, refused, found, with_state, step, step_by, step_in_by}
use Rattle.cdf_unit_list.specs.declared.Unit.{Unit}
use Rattle.cdf_unit_list.specs.declared.Open.{Open}
use Rattle.cdf_unit_list.proofs.Stepping.{step_closes}
use Rattle.cdf_reader_spec.specs.Place.{ReaderPlace, is_empty, every, is_state, at_last, fits}
use Rattle.cdf_reader_spec.specs.Calls.{Reply, refuse, move_to, stepped, next_of, untouched, skipped_top, passed, passing, skip_of, is_group, take_of, part_of}
use Rattle.cdf_reader_spec.specs.Calls.{empty_place, give, place_at, first_of, previous_of}
use Rattle.cdf_reader_spec.proofs.Fitting.{fitting, fits_true}
use Rattle.cdf_reader_spec.proofs.Opened.{kinds_states, chain_clauses}
use Rattle.cdf_reader_spec.proofs.Replying.{start, first_is, next_tests, passing_tests, skip_is, take_is, part_is, previous_tests, next_is}
use Rattle.cdf_reader_runs.proofs.Ranking.{low_later}
use Rattle.cdf_reader_runs.proofs.Around.{Around, lies, position_in, with_state_lem, fitting_held}
use Rattle.cdf_reader_runs.proofs.Keeps.{Keeps, first_keeps, next_keeps}
use Rattle.cdf_reader_plain.specs.Claims.{Fits, Again}

-- The last unit ends where the innermost open one does, if it is that one.
last_end : (position : ℕ) (o : Open) (os : List Open) (u : Unit) → at_last position (o ∷ os) u ≡ true → o.end ≡ u.end
unfolding at_last
last_end position o os u e =
    let w = both _ (eqb o.state (nothing (unit_of o.state)) && eqb position u.own) e in
    let v = both (eqb (unit_of o.state) u.id) _ w.0 in
    eqb-true o.end u.end (both (eqb o.start u.start) (eqb o.end u.end) v.1).1

module _ (l : Layout) (n : ℕ) where
  -- The last unit of a place, where it is the innermost open one.
  pub record Top (p : ReaderPlace) : Type 0 where
    pub unit : Open
    pub around : List Open
    pub units : p.units ≡ unit ∷ around
    pub held : Around l n p.position (unit ∷ around)
    pub state : is_state unit.state ≡ true
    pub end : unit.end ≡ p.last.end

  -- So it is if the place fits and the flag is on.
  pub top : (p : ReaderPlace) → fits l n p ≡ true → p.fresh ≡ true → Top p
  unfolding at_last every
  top p e on = go p.units refl ((fitting l n p e).last on)
    where
      go : (os : List Open) → p.units ≡ os → at_last p.position os p.last ≡ true → Top p
      go [] q last = absurd (false≢true last)
      go (o ∷ os) q last =
          let held : Around l n p.position (o ∷ os) = rw q at (fitting_held l n p e) in
          record {
            unit = o;
            around = os;
            units = q;
            held = held;
            state = (both (is_state o.state) _ (rw q at (fitting l n p e).states)).0;
            end = last_end p.position o os p.last last;
          }

  -- Past it the place fits.
  pub passed_fits : (p : ReaderPlace) → fits l n p ≡ true → p.fresh ≡ true → fits l n (passed p) ≡ true
  unfolding passed skipped_top with_state
  passed_fits p e on =
      let f = fitting l n p e in
      let t = top p e on in
      let within = lies l p.position t.unit t.around t.held.position in
      let skip = skipped t.unit.state in
      let chained = with_state_lem l n t.unit t.around skip (skipped_unit t.unit.state) t.held.chained in
      let w = chain_clauses l n (with_state t.unit skip ∷ t.around) chained in
      rw t.units
      (fits_true l n (record {
        position = p.last.end;
        units = with_state t.unit skip ∷ t.around;
        last = p.last;
        fresh = false;
        ranks = p.ranks;
        last_rank = p.last_rank;
      }) (record {
        some = omega arith;
        five = rw t.units at f.five;
        kinds = w.0;
        states = kinds_states (with_state t.unit skip ∷ t.around) w.0;
        starts = w.1;
        ends = w.2;
        position = position_in l p.last.end (with_state t.unit skip) t.around (omega (arith, t.end)) (omega (arith, t.end));
        own = f.own;
        end = f.end;
        within = f.within;
        last = λ z. absurd (false≢true z);
        each = rw t.units at f.each;
        last_rank = omega (arith, f.last_rank, t.end);
        ranks = low_later l p.position p.last.end (omega (arith, t.end)) p.ranks f.ranks;
      }))

-- The flag is on where the last unit is untouched.
flag_on : (p : ReaderPlace) → untouched p ≡ true → p.fresh ≡ true
unfolding untouched
flag_on p e = (both p.fresh _ (both (not (is_empty p)) _ e).1).0

module _ (l : Layout) (s : List ℕ) where
  -- If the number is 0, the place fits: so it is of what passes an untouched unit,
  passing_fits : (p : ReaderPlace) (may : Bool) → (may ≡ true → untouched p ≡ true) → Fits l s (passing l s p may)
  passing_fits p may only =
      rw passing_tests
      (of_cond (Fits l s) (not may) (refuse 11 0 p) _ (λ e z. absurd (omega arith))
      (λ e. of_cond (Fits l s) (not (fits l (length s) p)) (refuse 2 0 p) (move_to (passed p)) (λ f z. absurd (omega arith))
      (λ f z. passed_fits l (length s) p (not-false (fits l (length s) p) f) (flag_on p (only (not-false may e))))))

  pub skip_fits : (p : ReaderPlace) → Fits l s (skip_of l s p)
  skip_fits p = rw skip_is (passing_fits p (untouched p) (λ e. e))

  pub take_fits : (p : ReaderPlace) → Fits l s (take_of l s p)
  take_fits p = rw take_is (passing_fits p (untouched p && is_group p.last.id) (λ e. (both (untouched p) _ e).0))

  -- and of PREVIOUS, which tests it.
  pub previous_fits : (p : ReaderPlace) → Fits l s (previous_of l s p)
  previous_fits p =
      rw previous_tests
      (of_cond (Fits l s) (is_empty p) (refuse 11 0 p) _ (λ e z. absurd (omega arith))
      (λ e. of_cond (Fits l s) (not (fits l (length s) p)) (refuse 2 0 p) _ (λ f z. absurd (omega arith))
      (λ f z. not-false (fits l (length s) p) f)))

  -- At a place that fits it gives the last unit,
  pub previous_is : (p : ReaderPlace) → fits l (length s) p ≡ true → previous_of l s p ≡ give p
  unfolding is_empty
  previous_is p e = rw (previous_tests, ne_eqb (length p.units) 0 (λ z. omega (arith, (fitting l (length s) p e).some)), e)

  -- and so once more what a step gave.
  stepped_again : (p : ReaderPlace) (x : Step) → Keeps l s p x → Again l s (stepped p x)
  unfolding stepped
  stepped_again p done k z = absurd (omega arith)
  stepped_again p (refused n at) k z = absurd (k z)
  stepped_again p (found u os pos) k z = previous_is (place_at p u os pos) k

  pub again : (p : ReaderPlace) → Again l s (first_of l s) × Again l s (next_of l s p)
  again p = (
    rw first_is (stepped_again empty_place (start l s) (first_keeps l s)),
    rw next_tests
        (of_cond (Again l s) (is_empty p) (refuse 11 0 p) _ (λ e z. absurd (omega arith))
        (λ e. of_cond (Again l s) (not (fits l (length s) p)) (refuse 2 0 p) _ (λ f z. absurd (omega arith))
        (λ f. stepped_again p (step l s p.units p.position) (next_keeps l s p (not-false (fits l (length s) p) f))))),
  )

  -- With no unit open a step is at the end.
  none_open : (pos : ℕ) → step l s [] pos ≡ done
  unfolding step_by step_in_by close
  none_open pos = refl

  -- Past the one open unit is the end.
  passed_end : (p : ReaderPlace) (o : Open) → p.units ≡ o ∷ [] → fits l (length s) p ≡ true → p.fresh ≡ true →
      next_of l s (passed p) ≡ refuse 1 0 (passed p)
  unfolding passed skipped_top with_state stepped every
  passed_end p o q f on =
      let fit = fitting l (length s) p f in
      let end = last_end p.position o [] p.last (rw q at (fit.last on)) in
      let state = (both (is_state o.state) _ (rw q at fit.states)).0 in
      let stop = p.last.end in
      let skip = with_state o (skipped o.state) in
      let at_end_lem : step l s (skip ∷ []) stop ≡ done = rw (step_closes l s skip [] stop end, skipped_complete, state) (none_open stop) in
      next_is l s (passed p) (passed_fits l (length s) p f on) ∙ rw (q, at_end_lem)

  -- If the number is 0, the end is next.
  abbrev Ended : Reply → Type 0
  Ended r = r.number ≡ 0 → next_of l s r.place ≡ refuse 1 0 r.place

  pub skipped_root : (p : ReaderPlace) (o : Open) → p.units ≡ o ∷ [] → Ended (skip_of l s p)
  skipped_root p o q =
      rw (skip_is, passing_tests)
      (of_cond Ended (not (untouched p)) (refuse 11 0 p) _ (λ e z. absurd (omega arith))
      (λ e. of_cond Ended (not (fits l (length s) p)) (refuse 2 0 p) (move_to (passed p)) (λ f z. absurd (omega arith))
      (λ f z. passed_end p o q (not-false (fits l (length s) p) f) (flag_on p (not-false (untouched p) e)))))

-- Other bytes, as many, are passed and taken alike.
module _ (l : Layout) (s s' : List ℕ) (long : length s ≡ length s') (p : ReaderPlace) where
  passing_blind : (may : Bool) → passing l s p may ≡ passing l s' p may
  passing_blind may = rw (passing_tests l s p may, passing_tests l s' p may, long)

  take_blind : take_of l s p ≡ take_of l s' p
  take_blind = rw (take_is l s p, take_is l s' p) (passing_blind (untouched p && is_group p.last.id))

  pub skip_blind : (skip_of l s p ≡ skip_of l s' p) × (take_of l s p ≡ take_of l s' p) × (part_of l s p ≡ part_of l s' p)
  skip_blind = (rw (skip_is l s p, skip_is l s' p) (passing_blind (untouched p)), take_blind, rw (part_is l s p, part_is l s' p, take_blind))
