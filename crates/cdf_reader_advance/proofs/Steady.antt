-- At a place that fits a step can be done, so it is NEXT.
use Rattle.std.proofs.Common.{ℕ, suc, ◌+◌, ◌-◌, ◌≤◌, ◌≡◌, refl, sym, ap, ◌∙◌, Bool, true, false, cond, ◌&&◌, ◌||◌, List, [], ◌∷◌, ◌++◌, arith}
use Rattle.std.proofs.Common.{mul-add, eqb-true, le-leb, lt-ltb, eqb, length, take, drop}
use Rattle.std.proofs.lemmas.Bool.{eqb-false}
use Rattle.cdf_unit_table.specs.States.{opens}
use Rattle.cdf_unit_table.proofs.Heights.{falls, opens_lower}
use Rattle.cdf_unit_prefix.specs.Layout.{Layout, prefix_of}
use Rattle.cdf_unit_data.specs.Data.{name_bytes}
use Rattle.cdf_unit_data.specs.Standing.{name_row, row_bytes}
use Rattle.cdf_unit_data.proofs.Standing.{row_is}
use Rattle.cdf_unit_judge.specs.Judge.{judge_of, Judged, Fault, Found}
use Rattle.cdf_unit_judge.proofs.Placed.{placed}
use Rattle.cdf_unit_list.specs.Stack.{close, entered, with_state, step_in_by, step, step_by}
use Rattle.cdf_unit_list.specs.declared.Open.{Open}
use Rattle.cdf_unit_list.proofs.Entering.{unit_from}
use Rattle.cdf_unit_list.proofs.Stepping.{step_inside, step_closes}
use Rattle.cdf_reader_spec.specs.Place.{ReaderPlace, fits}
use Rattle.cdf_reader_spec.specs.Closing.{unclosed}
use Rattle.cdf_reader_spec.specs.Calls.{next_of}
use Rattle.cdf_reader_spec.proofs.Fitting.{Kinds, Fitting, fitting}
use Rattle.cdf_reader_spec.proofs.Opened.{kinds_bounded, at_most_four}
use Rattle.cdf_reader_spec.proofs.Suffix.{suffix, ends_most, ends_least, starts_least}
use Rattle.cdf_reader_spec.proofs.Ranking.{on_stands}
use Rattle.cdf_reader_spec.proofs.Replying.{next_is}
use Rattle.cdf_reader_close.proofs.Unclosed.{close_unclosed, front, stops}
use Rattle.cdf_reader_advance.specs.Advancing.{is_inside, has_bytes, rank_on, has_room, advanced_by, advanced}
use Rattle.cdf_reader_advance.proofs.Stepped.{advanced_is, length_opened}

module _ (l : Layout) (s : List ℕ) (p : ReaderPlace) (fit : fits l (length s) p ≡ true) where
  facts : Fitting l (length s) p
  facts = fitting l (length s) p fit

  -- The innermost unit starts a prefix before the position at least, and the rank before the next one is no higher than that.
  module _ (top : Open) (os : List Open) (is : unclosed p.units p.position ≡ top ∷ os) where
    parts : (closed : List Open) × (p.units ≡ closed ++ (top ∷ os))
    parts = let f = front p.position p.units in (f.0, f.1 ∙ ap (λ us. f.0 ++ us) is)

    kinds : Kinds (top ∷ os)
    kinds = let w = parts in suffix _ _ w.0 top os (rw w.1 at facts.kinds)

    start : top.start + prefix_of l ≤ p.position
    start =
        let w = parts in
        starts_least l p.position w.0 top os (rw w.1 at facts.starts) (rw w.1 at facts.position)

    ends : (p.position ≤ top.end) × (top.end ≤ length s)
    ends =
        let w = parts in
        let ends = rw w.1 at facts.ends in (
          ends_least l (length s) p.position w.0 top os ends (rw w.1 at facts.position),
          ends_most (length s) top os (suffix _ _ w.0 top os ends),
        )

    low : rank_on p ≤ p.position
    unfolding rank_on
    low =
        let h = on_stands l p.position p.units p.ranks p.last_rank facts.ranks facts.last_rank in
        let e = mul-add (rank_on p) 4 l.length_bytes in
        omega (arith, h, e, start)

    bytes : has_bytes (length s) p.position (top ∷ os) ≡ true
    unfolding has_bytes
    bytes = go (eqb top.end p.position) refl
      where
        go : (b : Bool) → eqb top.end p.position ≡ b → (b || is_inside (length s) p.position top) ≡ true
        go true e = refl
        go false e =
            let off = eqb-false top.end p.position e in
            rw (
              lt-ltb top.start p.position (omega (arith, start)),
              lt-ltb p.position top.end (omega (arith, ends, off)),
              le-leb top.end (length s) ends.1,
            )

    room : (j : Judged) → judge_of l false top.state (take (top.end - p.position) (drop p.position s)) ≡ j →
        has_room p (entered p.position (λ state. with_state top state ∷ os) j) ≡ true
    unfolding has_room entered
    room (Fault n k) e = refl
    room (Found id action own len state) e =
        let u = unit_from p.position id action own len in
        rw (
          length_opened u (with_state top state ∷ os),
          le-leb (cond (opens id) (suc (suc (length os))) (suc (length os))) 4 (go (opens id) refl),
          le-leb (rank_on p) p.position low,
        )
      where
        go : (b : Bool) → opens id ≡ b → cond b (suc (suc (length os))) (suc (length os)) ≤ 4
        go true o =
            let z = placed l false top.state _ e in
            omega (arith, (falls top.state id state z.may z.some).below, (opens_lower id o).lower, (kinds_bounded (top ∷ os) kinds).0)
        go false o = at_most_four (top ∷ os) kinds

    -- At its end it is incomplete, and before that a unit is judged in it.
    inner : has_room p (step l s (top ∷ os) p.position) ≡ true
    unfolding has_room
    inner = go (eqb top.end p.position) refl
      where
        go : (b : Bool) → eqb top.end p.position ≡ b → has_room p (step l s (top ∷ os) p.position) ≡ true
        go true e =
            let at = eqb-true top.end p.position e in
            rw (step_closes l s top os p.position at, stops p.position p.units top os is at)
        go false e =
            let off = eqb-false top.end p.position e in
            rw (step_inside l s top os p.position (omega (arith, ends, off))) (room _ refl)

  -- What is closed makes no other step.
  step_left : step l s p.units p.position ≡ step l s (unclosed p.units p.position) p.position
  unfolding step_by
  step_left = rw (← close_unclosed p.position p.units)

  steady_by : (os : List Open) → unclosed p.units p.position ≡ os →
      (has_bytes (length s) p.position os && has_room p (step l s os p.position)) ≡ true
  unfolding has_bytes has_room step_by step_in_by close
  steady_by [] is = refl
  steady_by (top ∷ os) is = rw (bytes top os is, inner top os is)

  pub advances : advanced l s p ≡ next_of l s p
  advances = advanced_is name_bytes l s p ∙ rw (step_left, steady_by (unclosed p.units p.position) refl) (rw (← step_left) (sym (next_is l s p fit)))

-- So it is by 01's row.
pub advances_by : (row : List ℕ) → row ≡ name_row → (l : Layout) (s : List ℕ) (p : ReaderPlace) → fits l (length s) p ≡ true →
    advanced_by (row_bytes row) l s p ≡ next_of l s p
advances_by row e l s p fit = ap (λ w. advanced_by w l s p) (row_is row e) ∙ advances l s p fit
