-- The walk over the units of an accepted E/R group: what stands behind each, and what it has met at the end.
use Rattle.std.proofs.Common.{ℕ, ◌+◌, ◌≤◌, ◌<◌, ◌≡◌, refl, sym, ap, subst, ◌∙◌, true, cond, List, [], ◌∷◌, arith, eqb-true, eq-eqb, ne_eqb, eqb, ltb}
use Rattle.std.proofs.Common.{length, length-append}
use Rattle.std.proofs.lemmas.List.Edits.{sets}
use mathlib.Core.List.{reverse_aux}
use mathlib.Core.Option.{Option, none, some}
use Rattle.std.specs.Prelude.{Result, Ok, Err}
use Rattle.cdf_refusal.specs.declared.Fault.{Fault}
use Rattle.cdf_refusal.proofs.Apart.{refuses}
use Rattle.cdf_unit_table.specs.Ids.{er_group, template, temporary_key, entity_key}
use Rattle.cdf_unit_table.proofs.Bools.{of_cond}
use Rattle.cdf_unit_prefix.specs.Layout.{Layout}
use Rattle.cdf_unit_data.specs.Standing.{name_row, row_bytes}
use Rattle.cdf_unit_list.specs.Units.{listing}
use Rattle.cdf_unit_list.specs.Ranks.{standing}
use Rattle.cdf_unit_list.specs.declared.Unit.{Unit}
use Rattle.cdf_unit_list.specs.declared.Ranked.{Ranked}
use Rattle.cdf_grammar.specs.Claims.{Accepted}
use Rattle.cdf_reader_spec.specs.Place.{fits}
use Rattle.cdf_reader_spec.specs.Calls.{Reply, first_of, next_of}
use Rattle.cdf_reader_runs.proofs.Further.{next_later}
use Rattle.cdf_reader_runs.proofs.Folding.{Going, begun, turned, over}
use Rattle.cdf_reader_runs.proofs.Looping as loop
use Rattle.cdf_reader_advance.specs.Advancing.{advanced_by}
use Rattle.cdf_reader.specs.View.{view, reply_of, reply_from, no_place}
use Rattle.cdf_reader.specs.declared.Place.{Place}
use Rattle.cdf_reader.specs.declared.Answer.{Answer}
use Rattle.cdf_reader.proofs.Walking.{left, Inside, first_inside, is_next, next_inside, fewer}
use Rattle.cdf_lookup_spec.specs.Find.{is_group}
use Rattle.cdf_resolve_spec.specs.Resolve.{most_templates}
use Rattle.cdf_resolve_spec.specs.Pass.{Pass, nothing_met, add_of, tell_of, held_for, met_of, Walk, walk_at, step_of}
use Rattle.cdf_resolve_spec.specs.declared.Tally.{Tally}
use Rattle.cdf_resolve_spec.specs.declared.Worst.TheVariants.{Fine}
use Rattle.cdf_resolve_spec.proofs.Leading.{Owner}
use Rattle.cdf_resolve_spec.proofs.Pairing.{Pairs, Orderly}
use Rattle.cdf_resolve_spec.proofs.Deciding.{met, pass_is, told_is, ranks_are}
use Rattle.cdf_resolve.specs.Holding.{Within, Ready, OwnerLies, Keeps, Written, Meets, Passed}
use Rattle.cdf_resolve.specs.declared.Template.{Template}
use Rattle.cdf_resolve.proofs.Keeping.{ready}

-- Pairs of the units behind some are those of all.
pairs_behind : (l : Layout) (all before us : List Unit) → Pairs l all (reverse_aux before us) → Pairs l all us
pairs_behind l all [] us w = w
pairs_behind l all (v ∷ before) us w = tail us (pairs_behind l all before (v ∷ us) w)
  where
    tail : (us : List Unit) → Pairs l all (v ∷ us) → Pairs l all us
    tail [] x = record {}
    tail (u ∷ us) x = x.1

-- A rank at most is told of a unit.
pub add_ranks : (l : Layout) (s : List ℕ) (p : Pass) (o : Ranked) → (add_of l s p o).ranks ≡ p.ranks
unfolding add_of
add_ranks l s p o = of_cond (λ (q : Pass). q.ranks ≡ p.ranks) (ltb (length p.seen) most_templates) _ _ (λ e. refl) (λ e. refl)

tell_ranks : (p : Pass) (o : Ranked) (m : Option ℕ) → length (tell_of p o m).ranks ≤ length p.ranks + 1
unfolding tell_of
tell_ranks p o none = omega arith
tell_ranks p o (some rank) = omega (arith, length-append p.ranks (rank ∷ []))

pub one_more : (l : Layout) (s : List ℕ) (p : Pass) (o : Ranked) (id : ℕ) →
    length (cond (eqb id temporary_key) (met_of l s p o) p).ranks ≤ length p.ranks + 1
unfolding met_of
one_more l s p o id =
    of_cond (λ (q : Pass). length q.ranks ≤ length p.ranks + 1) (eqb id temporary_key) _ _
    (λ e. of_cond (λ (q : Pass). length q.ranks ≤ length p.ranks + 1) (eqb o.unit.id template) _ _
    (λ f. rw (add_ranks l s p o) (omega arith))
    (λ f. of_cond (λ (q : Pass). length q.ranks ≤ length p.ranks + 1) (eqb o.unit.id entity_key) _ _
    (λ g. tell_ranks p o (held_for l s p.seen o.unit)) (λ g. omega arith)))
    (λ e. omega arith)

module _ (l : Layout) (s : List ℕ) (o : Orderly l s) (group : is_group (listing l s).units ≡ true) where
  -- The root is no key.
  root_other : (u : Unit) (us : List Unit) → (listing l s).units ≡ u ∷ us → u.id ≡ temporary_key → ⊥
  unfolding is_group
  root_other u us e z = let id = eqb-true u.id er_group (ap is_group (sym e) ∙ group) in omega (arith, id, z)

  -- The unit before the one in hand: its name, and the number behind that, lie in the bytes.
  module _ (first : Ranked) (a : Reply) (w : Walk) (g : Going (step_of l s) l s (walk_at first nothing_met) a w) (z : a.number ≡ 0) where
    pub owner_lies : OwnerLies l (length s) a.handed.unit.id w.last.unit
    unfolding step_of standing
    owner_lies key owner = go g.before refl
      where
        go : (before : List Unit) → g.before ≡ before → Within l (length s) w.last.unit.start w.last.unit.own
        go [] e =
            let t = loop.turned l s g.before a g.going z in
            absurd (root_other a.handed.unit _ (t.next.all ∙ ap (λ b. reverse_aux b (a.handed.unit ∷ t.next.units)) e) key)
        go (u ∷ us) e =
            let t = loop.turned l s g.before a g.going z in
            let has = rw e at g.has in
            let same : w.last.unit ≡ u = ap (λ (x : Walk). x.last.unit) has in
            let whole : (listing l s).units ≡ reverse_aux us (u ∷ a.handed.unit ∷ t.next.units) =
            t.next.all ∙ ap (λ b. reverse_aux b (a.handed.unit ∷ t.next.units)) e in
            let pairs = pairs_behind l (listing l s).units us (u ∷ a.handed.unit ∷ t.next.units)
            (subst (Pairs l (listing l s).units) whole o.pairs) in
            let p = pairs.0 (subst (λ (x : Unit). Owner x.id) same owner) in
            rw same (record {
              name = p.leads.name;
              number = omega (arith, p.leads.start, p.leads.four key, t.within);
            })

  -- At the end of the walk.
  pub passed : (first : Ranked) (a : Reply) (w : Walk) → Going (step_of l s) l s (walk_at first nothing_met) a w → (a.number ≡ 0 → ⊥) →
      (before after : List ℕ) (t : Tally) (held : List Template) → Keeps l (length s) w.pass t held →
      Written before w.pass after → Accepted l s → Passed l s before t after
  passed first a w g end before after t held k written accepted =
      let all : w.pass ≡ met l s o =
      sym (ap (λ (x : Walk). x.pass) (over (step_of l s) l s (walk_at first nothing_met) a w g end).all) ∙ pass_is l s o first group in
      record {
        answer = λ room. rw (k.worst, k.count, all) (told_is l s o room accepted group);
        ranks = λ e.
            let fine = sym (ap (λ (p : Pass). p.worst) all) ∙ sym k.worst ∙ e in
            written ∙ ap (sets before 0) (ap (λ (p : Pass). p.ranks) all ∙ ranks_are l s o fine);
      }

  -- What the loop knows.
  pub record Walking (before : List ℕ) (r : Result Answer Fault) (owner : Ranked) (t : Tally) (held : List Template) (list : List ℕ) : Type 0 where
    pub first : Ranked
    pub pass : Pass
    pub from : Place
    pub going : Going (step_of l s) l s (walk_at first nothing_met) (reply_from from r) (walk_at owner pass)
    pub keeps : Keeps l (length s) pass t held
    pub written : Written before pass list
    pub count : (a : Answer) → r ≡ Ok a → t.count ≤ a.place.position
    pub inside : Inside l s r

  pub walk_begun : (before : List ℕ) (owner : Ranked) (t : Tally) (held : List Template) → length held ≡ 256 →
      (t.templates ≡ 0) × (t.count ≡ 0) × (t.worst ≡ Fine) → (r : Result Answer Fault) → reply_from no_place r ≡ first_of l s →
      Walking before r owner t held before
  walk_begun before owner t held full zero r e = record {
    first = owner;
    pass = nothing_met;
    from = no_place;
    going = begun (step_of l s) l s (walk_at owner nothing_met) (reply_from no_place r) e;
    keeps = record {
      few = omega arith;
      templates = zero.0;
      count = zero.1;
      worst = zero.2;
      lies = rw zero.0 tt;
      full = full;
      seen = rw zero.0;
    };
    written = refl;
    count = λ a is. omega (arith, zero.1);
    inside = first_inside l s r e;
  }

  module _ (before : List ℕ) (r : Result Answer Fault) (owner : Ranked) (t : Tally) (held : List Template) (list : List ℕ)
      (w : Walking before r owner t held list) where
    -- Behind the last unit.
    pub walk_over : (f : Fault) → r ≡ Err f → Accepted l s → Passed l s before t list
    walk_over f is accepted =
        passed w.first (reply_from w.from (Err f)) (walk_at owner w.pass) (rw is at w.going) (refuses f.refusal) before list t held w.keeps w.written
        accepted

    module _ (a : Answer) (is : r ≡ Ok a) where
      goes : Going (step_of l s) l s (walk_at w.first nothing_met) (reply_of a) (walk_at owner w.pass)
      goes = rw is at w.going

      pub walk_ready : Ready l (length s) t held
      walk_ready = ready l s w.pass t held w.keeps (omega (arith, w.count a is, w.inside a is))

      pub walk_lies : OwnerLies l (length s) a.handed.unit.id owner.unit
      walk_lies = owner_lies w.first (reply_of a) (walk_at owner w.pass) goes refl

      fit : fits l (length s) (view a.place) ≡ true
      fit = (turned (step_of l s) l s (walk_at w.first nothing_met) (reply_of a) (walk_at owner w.pass) goes refl).fit

      next_going : Going (step_of l s) l s (walk_at w.first nothing_met) (next_of l s (view a.place))
          (walk_at a.handed (cond (eqb a.handed.unit.id temporary_key) (met_of l s w.pass owner) w.pass))
      unfolding step_of
      next_going = (turned (step_of l s) l s (walk_at w.first nothing_met) (reply_of a) (walk_at owner w.pass) goes refl).next

      -- The place fits, so a step from it by 01's row is NEXT.
      module _ (row : List ℕ) (by : row ≡ name_row) (q : Result Answer Fault)
          (e : reply_from a.place q ≡ advanced_by (row_bytes row) l s (view a.place)) where
        pub walk_less : left l s q < left l s r
        walk_less = rw is (fewer l s a fit row by q e (w.inside a is))

        -- One unit is met.
        pub walk_on : (r' : Tally) (held' : List Template) (list' : List ℕ) →
            Meets l s owner a.handed.unit.id t held list r' held' list' → Walking before q a.handed r' held' list'
        walk_on r' held' list' m =
            let now = m before w.pass w.keeps w.written in
            let more = one_more l s w.pass owner a.handed.unit.id in
            let same = is_next l s a fit row by q e in
            record {
              first = w.first;
              pass = cond (eqb a.handed.unit.id temporary_key) (met_of l s w.pass owner) w.pass;
              from = a.place;
              going = rw same next_going;
              keeps = now.0;
              written = now.1;
              count = λ b to.
                  let here = rw to at same in
                  let later = (rw (← here) at (next_later l s (view a.place))) refl in
                  omega (arith, later.0, more, now.0.count, w.keeps.count, w.count a is);
              inside = next_inside l s a fit row by q e;
            }

-- A unit with a key behind it, by its kind.
module _ (l : Layout) (s : List ℕ) (p : Pass) (o : Ranked) (id : ℕ) where
  pub meet_none : (id ≡ temporary_key → ⊥) → cond (eqb id temporary_key) (met_of l s p o) p ≡ p
  meet_none n = rw (ne_eqb id temporary_key n)

  module _ (key : id ≡ temporary_key) where
    pub meet_template : o.unit.id ≡ template → cond (eqb id temporary_key) (met_of l s p o) p ≡ add_of l s p o
    unfolding met_of
    meet_template e = rw (eq-eqb id temporary_key key, eq-eqb o.unit.id template e)

    module _ (n : o.unit.id ≡ template → ⊥) where
      pub meet_key : o.unit.id ≡ entity_key →
          cond (eqb id temporary_key) (met_of l s p o) p ≡ tell_of p o (held_for l s p.seen o.unit)
      unfolding met_of
      meet_key e = rw (eq-eqb id temporary_key key, ne_eqb o.unit.id template n, eq-eqb o.unit.id entity_key e)

      pub meet_other : (o.unit.id ≡ entity_key → ⊥) → cond (eqb id temporary_key) (met_of l s p o) p ≡ p
      unfolding met_of
      meet_other m = rw (eq-eqb id temporary_key key, ne_eqb o.unit.id template n, ne_eqb o.unit.id entity_key m)
