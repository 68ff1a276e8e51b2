-- What is claimed of the builder's place and of single calls. The term of this record stands in proofs/Proved.
use Rattle.std.specs.Prelude.{ℕ, ◌≤◌, ◌≡◌, true, List, length}
use Rattle.cdf_unit_prefix.specs.Layout.{Layout, layout_of}
use Rattle.cdf_unit_prefix.specs.declared.Edition.{Edition}
use Rattle.cdf_grammar.specs.Encoding.{Item}
use Rattle.cdf_builder_spec.specs.Place.{BuilderPlace, fits}
use Rattle.cdf_builder_spec.specs.NearMisses.{misses_found, misses_due}
use Rattle.cdf_builder_spec.specs.Requests.{Request, unit, group}
use Rattle.cdf_builder_spec.specs.Calls.{no_builder_place, start_of, decide_of, call_of, finish_of}
use Rattle.cdf_builder_spec.specs.Orders.{first_broken, start_rules, next_rules, add_rules, finish_rules}

pub record Claims : Type 0 where
  -- Each clause decides: a place may break it and keep all others. How many units are open follows from their kinds.
  pub decides : misses_found ≡ misses_due
  -- A place that a start returns with 0 fits the buffer as it is then,
  pub start_fits : (e : Edition) (s : List ℕ) (id : ℕ) → (start_of (layout_of e) s id).number ≡ 0 →
      fits (layout_of e) (length (start_of (layout_of e) s id).buffer) (start_of (layout_of e) s id).place ≡ true
  -- and one that NEXT or ADD_STREAM returns with 0, whatever place it was given.
  pub call_fits : (l : Layout) (s : List ℕ) (p : BuilderPlace) (r : Request) → (call_of l s p r).number ≡ 0 →
      fits l (length (call_of l s p r).buffer) (call_of l s p r).place ≡ true
  -- A refused start returns the empty place, and leaves the buffer as it was;
  pub refused_start : (l : Layout) (s : List ℕ) (id : ℕ) → ((start_of l s id).number ≡ 0 → ⊥) →
      ((start_of l s id).place ≡ no_builder_place) × ((start_of l s id).buffer ≡ s)
  -- a refused call leaves the place as it was too.
  pub refused_stays : (l : Layout) (s : List ℕ) (p : BuilderPlace) (r : Request) → ((call_of l s p r).number ≡ 0 → ⊥) →
      ((call_of l s p r).place ≡ p) × ((call_of l s p r).buffer ≡ s)
  -- A place that fits has at most four open units.
  pub four : (l : Layout) (n : ℕ) (p : BuilderPlace) → fits l n p ≡ true → length p.units ≤ 4
  -- START tells the number of the first rule that is broken, in 01's order, and 0 where none is;
  pub start_order : (l : Layout) (s : List ℕ) (id : ℕ) → (start_of l s id).number ≡ first_broken (start_rules l (length s) id)
  -- so do NEXT,
  pub next_order : (l : Layout) (s : List ℕ) (p : BuilderPlace) (u : Item) → (call_of l s p (unit u)).number ≡ first_broken (next_rules l (length s) p u)
  -- ADD_STREAM
  pub add_order : (l : Layout) (s : List ℕ) (p : BuilderPlace) (g : List ℕ) → (call_of l s p (group g)).number ≡ first_broken (add_rules l (length s) p g)
  -- and FINISH.
  pub finish_order : (l : Layout) (n : ℕ) (p : BuilderPlace) → (finish_of l n p).number ≡ first_broken (finish_rules l n p)
  -- DECIDE tells the number and the place that the call comes to.
  pub decided : (l : Layout) (s : List ℕ) (p : BuilderPlace) (r : Request) →
      decide_of l (length s) p r ≡ record { number = (call_of l s p r).number; place = (call_of l s p r).place }
