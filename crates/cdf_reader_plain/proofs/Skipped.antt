-- Past a unit as a whole: the units in it are listed, but none of them counts in those around it. So what is open there, and which rank is due,
-- is what it was where the unit was handed out.
use Rattle.std.proofs.Common.{ℕ, suc, ◌≤◌, ◌<◌, ◌≡◌, refl, Bool, true, false, cond, ◌&&◌, List, [], ◌∷◌, ◌++◌, map, arith, eq-eqb, ne_eqb, lt-ltb}
use Rattle.std.proofs.Common.{le-ltb, le-leb, ltb}
use mathlib.Core.Bool.{and-false}
use Rattle.cdf_unit_table.specs.States.{opens, skipped}
use Rattle.cdf_unit_table.proofs.Skipping.{skipped_complete}
use Rattle.cdf_unit_prefix.specs.Layout.{Layout}
use Rattle.cdf_unit_list.specs.Units.{parents_that, open_at, first_starts, inside, state_of, Next}
use Rattle.cdf_unit_list.specs.Stack.{Closing, close, with_state, step_in, step, step_by, step_in_by}
use Rattle.cdf_unit_list.specs.declared.Unit.{Unit}
use Rattle.cdf_unit_list.specs.declared.Open.{Open}
use Rattle.cdf_unit_list.proofs.Nested.{reaching, Nested, narrow, still_reach}
use Rattle.cdf_unit_list.proofs.StatesListed.{open_of, Before, before_later}
use Rattle.cdf_unit_list.proofs.Closing.{Closes, stops, leaves, closes}
use Rattle.cdf_unit_list.proofs.Entering.{Follow}
use Rattle.cdf_unit_list.proofs.Stepping.{step_closes}
use Rattle.cdf_unit_list.proofs.Agreement.{OfClosing, close_bounded, within_agrees}
use Rattle.cdf_unit_list.proofs.Ranks.{Counted, CountedLeft, CountsOn, within_counts}
use Rattle.cdf_grammar.proofs.Nesting.{Within}
use Rattle.cdf_reader_spec.specs.Place.{ReaderPlace, is_state}
use Rattle.cdf_reader_spec.specs.Closing.{unclosed_ranks}
use Rattle.cdf_reader_spec.specs.Ranking.{rank_after, next_rank}
use Rattle.cdf_reader_spec.specs.Calls.{skipped_top, passed}
use Rattle.cdf_reader_runs.proofs.Ranking.{close_counted}
use Rattle.cdf_reader_runs.proofs.Looping.{Follows, agrees_follow, ranks_left}

-- The unit u is listed after `us`, and `vs` after it, the last one first: they lie between `pos`, which is behind its start, and its end.
module _ (u : Unit) (us : List Unit) (pos : ℕ) (past : u.start < pos) where
  abbrev listed : List Unit → List Unit
  listed vs = vs ++ (u ∷ us)

  -- Of those that are open around a unit in u, the innermost is not one that starts before u,
  none_first : (f : Unit → Bool) → (opens u.id && f u) ≡ true → (at : ℕ) → at < u.start → (vs : List Unit) → Within pos u.end vs →
      first_starts at (parents_that f (listed vs)) ≡ false
  unfolding first_starts parents_that
  none_first f on at h [] w = rw on (ne_eqb u.start at (λ e. omega arith))
  none_first f on at h (v ∷ vs) w = go (opens v.id && f v) (none_first f on at h vs w.1)
    where
      go : (b : Bool) → first_starts at (parents_that f (listed vs)) ≡ false →
          first_starts at (cond b (v ∷ parents_that f (listed vs)) (parents_that f (listed vs))) ≡ false
      go true more = ne_eqb v.start at (λ e. omega (arith, w.0.low))
      go false more = more

  module _ (parent : opens u.id ≡ true) where
    -- so that such a one has as many units directly in it as before.
    inside_same : (at : ℕ) → at < u.start → (vs : List Unit) → Within pos u.end vs → inside at (listed vs) ≡ inside at (u ∷ us)
    unfolding inside open_at
    inside_same at h [] w = refl
    inside_same at h (v ∷ vs) w =
        let reaches = lt-ltb v.start u.end (omega (arith, w.0.nonempty, w.0.high)) in
        rw (none_first (λ x. ltb v.start x.end) (rw (parent, reaches)) at h vs w.1) (inside_same at h vs w.1)

    -- Those around u are as they were,
    around_same : (vs : List Unit) → Within pos u.end vs → (ws : List Unit) (end : ℕ) → Nested u.start end ws →
        map (open_of (listed vs)) ws ≡ map (open_of (u ∷ us)) ws
    unfolding state_of
    around_same vs w [] end h = refl
    around_same vs w (x ∷ ws) end h =
        let rest = narrow ws x.start x.end u.start x.end (omega arith) (omega arith) h.2 in
        rw (inside_same x.start h.0 vs w, around_same vs w ws x.end rest)

    -- and so are their ranks and what is due in them.
    counted_same : (vs : List Unit) → Within pos u.end vs → (ws : List Unit) (end : ℕ) → Nested u.start end ws → (ks : List ℕ) (r : ℕ) →
        Counted (u ∷ us) (map (open_of (u ∷ us)) ws) ks r → Counted (listed vs) (map (open_of (u ∷ us)) ws) ks r
    counted_same vs w [] end h ks r c = c
    counted_same vs w (x ∷ ws) end h [] r c = c
    counted_same vs w (x ∷ ws) end h (k ∷ ks) r c =
        let rest = narrow ws x.start x.end u.start x.end (omega arith) (omega arith) h.2 in
        (rw (inside_same x.start h.0 vs w) c.0, counted_same vs w ws x.end rest ks (suc k) c.1)

  -- At the end of u neither it nor a unit in it is open.
  open_same : (vs : List Unit) → Within pos u.end vs → open_at u.end (listed vs) ≡ open_at u.end us
  unfolding open_at parents_that
  open_same [] w = rw (le-ltb u.end u.end (omega arith), and-false)
  open_same (v ∷ vs) w = rw (le-ltb u.end v.end w.0.high, and-false) (open_same vs w.1)

  -- All of them start before it.
  before_end : pos ≤ u.end → Before pos (u ∷ us) → (vs : List Unit) → Within pos u.end vs → Before u.end (listed vs)
  before_end h b [] w = before_later (u ∷ us) pos u.end h b
  before_end h b (v ∷ vs) w = (omega (arith, w.0.nonempty, w.0.high), before_end h b vs w.1)

  -- So a step of what is around u, from its end, goes on as the list does.
  module _ (l : Layout) (s : List ℕ) (o : Open) (outer : List Open) (f : Follow (u ∷ us) (o ∷ outer) pos) (parent : opens u.id ≡ true)
      (h : pos ≤ u.end) where
    reach : reaching pos (u ∷ us) ≡ u ∷ reaching pos us
    unfolding parents_that
    reach = rw (parent, le-leb pos u.end h)

    pub past_goes : (vs : List Unit) → Within pos u.end vs → (ks : List ℕ) (k : ℕ) → Counted (u ∷ us) outer ks (suc k) →
        Follows (listed vs) (step l s outer u.end)
        × CountsOn (listed vs) (unclosed_ranks outer ks u.end) (rank_after outer ks u.end (suc k)) (step l s outer u.end)
    unfolding step_by step_in_by
    past_goes vs w ks k c =
        let stack = rw reach at f.stack in
        let nested = rw reach at f.nested in
        let still = still_reach pos u.end h us u.start nested.2 in
        let is : outer ≡ map (open_of (u ∷ us)) (reaching pos us) = cc in
        let same = around_same parent vs w (reaching pos us) u.end nested.2 in
        let mine : outer ≡ map (open_of (listed vs)) (reaching u.end us) = rw (still, same) is in
        let counted = counted_same parent vs w (reaching pos us) u.end nested.2 ks (suc k) (rw is at c) in
        let due = close_counted (listed vs) outer ks (suc k) u.end (rw (← is) at counted) in
        let inner = narrow (reaching pos us) u.start u.end u.end u.end (omega arith) (omega arith) nested.2 in
        let low = close_bounded l s outer u.end f.bounded.1 in
        go (close outer u.end) (closes (listed vs) u.end us (rw still inner)) (rw mine) low due
      where
        go : {n : Next} {x : Closing} (c : Closing) → Closes (listed vs) u.end (open_at u.end us) n x → c ≡ x → OfClosing l s c →
            CountedLeft (listed vs) (unclosed_ranks outer ks u.end) (rank_after outer ks u.end (suc k)) c →
            Follows (listed vs) (step_in l s u.end c)
            × CountsOn (listed vs) (unclosed_ranks outer ks u.end) (rank_after outer ks u.end (suc k)) (step_in l s u.end c)
        go c stops e low due = rw e (record {}, record {})
        go c (leaves n) e low due =
            let before = before_end h f.before vs w in
            let same = open_same vs w in
            rw e (
              agrees_follow (within_agrees l s (listed vs) u.end before (open_at u.end us) same n (rw e at low)),
              within_counts l s (listed vs) u.end before (open_at u.end us) same n _ _ (rw e at due),
            )

-- Open units with their ranks: the innermost has one.
pub split_ranks : (us : List Unit) (os : List Open) (ks : List ℕ) (r : ℕ) → Counted us os ks r → (o : Open) (outer : List Open) → os ≡ o ∷ outer →
    (k : ℕ) × (rest : List ℕ) × (ks ≡ k ∷ rest) × Counted us outer rest (suc k)
split_ranks us os ks r c o outer e = go ks (rw e at c)
  where
    go : (ks : List ℕ) → Counted us (o ∷ outer) ks r → (k : ℕ) × (rest : List ℕ) × (ks ≡ k ∷ rest) × Counted us outer rest (suc k)
    go [] c = absurd c
    go (k ∷ ks) c = (k, ks, refl, c.1)

-- The unit that was passed closes where it ends: a step from there, and the ranks, are those of what is around it.
pub record PassedCloses (l : Layout) (s : List ℕ) (p : ReaderPlace) (outer : List Open) (k : ℕ) (ks : List ℕ) (stop : ℕ) : Type 0 where
  pub position : (passed p).position ≡ stop
  pub fresh : (passed p).fresh ≡ false
  pub step : step l s (passed p).units (passed p).position ≡ step l s outer stop
  pub ranks : ranks_left (passed p) ≡ unclosed_ranks outer ks stop
  pub next : next_rank (passed p) ≡ rank_after outer ks stop (suc k)

pub passed_closes : (l : Layout) (s : List ℕ) (p : ReaderPlace) (o : Open) (outer : List Open) → p.units ≡ o ∷ outer → (k : ℕ) (ks : List ℕ) →
    p.ranks ≡ k ∷ ks → is_state o.state ≡ true → (stop : ℕ) → o.end ≡ stop → p.last.end ≡ stop → PassedCloses l s p outer k ks stop
unfolding passed skipped_top with_state next_rank rank_after unclosed_ranks
passed_closes l s p o outer units k ks ranks state stop end last =
    let skip = with_state o (skipped o.state) in
    record {
      position = last;
      fresh = refl;
      step = rw (units, last, step_closes l s skip outer stop end, skipped_complete, state);
      ranks = rw (units, ranks, last, eq-eqb o.end stop end, skipped_complete, state);
      next = rw (units, ranks, last, eq-eqb o.end stop end, skipped_complete, state);
    }
