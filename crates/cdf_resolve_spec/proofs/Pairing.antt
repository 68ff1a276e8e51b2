-- Of the units of a stream, each that has keys and the key behind it: what the definition says of the first is told by the second.
use Rattle.std.proofs.Common.{ℕ, suc, ◌+◌, ◌≡◌, refl, sym, ap, ◌∙◌, Bool, true, false, ◌&&◌, List, [], ◌∷◌, arith, eqb-true, eqb, length}
use mathlib.Core.List.{reverse_aux}
use mathlib.Core.Option.{some}
use Rattle.cdf_unit_table.specs.Ids.{er_group, temporary_key}
use Rattle.cdf_unit_table.proofs.Bools.{both, clash}
use Rattle.cdf_unit_prefix.specs.Layout.{Layout, layout_of, prefix_of}
use Rattle.cdf_unit_prefix.specs.declared.Edition.{Edition}
use Rattle.cdf_unit_list.specs.Units.{Listing, listing}
use Rattle.cdf_unit_list.specs.declared.Unit.{Unit}
use Rattle.cdf_grammar.specs.Trees.{Forest, none, tree}
use Rattle.cdf_grammar.specs.Published.{production_of}
use Rattle.cdf_grammar.specs.Encoding.{Stream, encode, own_length, list}
use Rattle.cdf_grammar.proofs.Proved.{stream_listing}
use Rattle.cdf_lookup_spec.specs.Find.{is_key, first_that, passes}
use Rattle.cdf_lookup_spec.proofs.Ordered.{Rising, rising}
use Rattle.cdf_lookup_spec.proofs.Searching.{Before, before_on, early, skip_before, judged}
use Rattle.cdf_resolve_spec.specs.Resolve.{key_in, is_temporary, has_temporary, key_bytes}
use Rattle.cdf_resolve_spec.specs.Pass.{number_of}
use Rattle.cdf_resolve_spec.proofs.Leading.{Owner, Leads, Led, led}

module _ (l : Layout) (all : List Unit) where
  -- The key of t is k, which stands where the own data of t end.
  pub record Pair (t k : Unit) : Type 0 where
    pub key : key_in all t ≡ some k
    pub leads : Leads l t k

  -- Each unit that has keys is paired with the one behind it.
  abbrev pub Pairs : List Unit → Type 0
  Pairs [] = record {}
  Pairs (t ∷ []) = Owner t.id → ⊥
  Pairs (t ∷ k ∷ us) = (Owner t.id → Pair t k) × Pairs (k ∷ us)

  -- Of all units, the first key in t is the one behind it.
  key_behind : (before : List Unit) (t k : Unit) (us : List Unit) (b : ℕ) → all ≡ reverse_aux before (t ∷ k ∷ us) →
      Before t.start before → Rising t.start b (t ∷ k ∷ us) → Leads l t k → key_in all t ≡ some k
  unfolding key_in first_that
  key_behind before t k us b whole earlier r w =
      rw (
        whole,
        skip_before t is_key before (t ∷ k ∷ us) (before_on t.start (suc t.start) before (omega arith) earlier),
        early t is_key t (omega arith),
        judged t is_key k (omega (arith, r.1.0)) w.lies,
        w.key,
      )

  pairs_from : (before us : List Unit) (a b : ℕ) → all ≡ reverse_aux before us → Before a before → Rising a b us → Led l us → Pairs us
  pairs_from before [] a b whole earlier r w = record {}
  pairs_from before (t ∷ []) a b whole earlier r w = w.0
  pairs_from before (t ∷ k ∷ us) a b whole earlier r w =
      let early = before_on a t.start before r.0 earlier in
      let past : Before (suc t.start) (t ∷ before) = (omega arith, before_on t.start (suc t.start) before (omega arith) early) in (
        (λ o. record { key = key_behind before t k us b whole early (omega arith, r.1) (w.0 o); leads = w.0 o }),
        pairs_from (t ∷ before) (k ∷ us) (suc t.start) b whole past r.1 w.1,
      )

-- The own data of an E/R group end with its prefix.
root_width : (l : Layout) (t : Forest) (u : Unit) (us : List Unit) → list l 0 t ≡ u ∷ us → u.id ≡ er_group → u.own ≡ prefix_of l
unfolding list own_length production_of
root_width l none u us e id = clash cc
root_width l (tree kind action text inner rest) u us e id =
    let same = head_same e in
    let group : kind ≡ er_group = ap (λ (x : Unit). x.id) same ∙ id in
    sym (ap (λ (x : Unit). x.own) same) ∙ rw group (omega arith)
  where
    head_same : {v w : Unit} {vs ws : List Unit} → v ∷ vs ≡ w ∷ ws → v ≡ w
    head_same x = cc

-- The units of an accepted stream rise and are paired, and of an E/R group's the first ends where its prefix does.
pub record Orderly (l : Layout) (s : List ℕ) : Type 0 where
  pub bound : ℕ
  pub rising : Rising 0 bound (listing l s).units
  pub pairs : Pairs l (listing l s).units (listing l s).units
  pub root : (u : Unit) (us : List Unit) → (listing l s).units ≡ u ∷ us → u.id ≡ er_group → u.own ≡ prefix_of l

pub orderly : (e : Edition) (s : List ℕ) (t : Forest) → Stream (layout_of e) s t → Orderly (layout_of e) s
orderly e s t p =
    let l = layout_of e in
    let us = ap (λ (r : Listing). r.units) (stream_listing e s t p) in
    let up : Rising 0 (0 + length (encode l t)) (listing l s).units = rw us (rising l 0 t) in
    let leads : Led l (listing l s).units = rw us (led l 0 t p.tree.conforms) in
    record {
      bound = 0 + length (encode l t);
      rising = up;
      pairs = pairs_from l (listing l s).units [] (listing l s).units 0 _ refl (record {}) up leads;
      root = λ u vs e id. root_width l t u vs (sym us ∙ e) id;
    }

module _ (l : Layout) (s : List ℕ) (all : List Unit) where
  -- Where the key that is found is a temporary one, its bytes are the number behind the own data.
  abbrev pub Numbered : Unit → Type 0
  Numbered u = (id : ℕ) → Owner id → has_temporary all id u ≡ true → key_bytes l s (key_in all u) ≡ number_of l s u

  -- By the key that is paired: what the definition asks, and the number.
  module _ (t k : Unit) (w : Pair l all t k) where
    pub temporary_is : (id : ℕ) → has_temporary all id t ≡ (eqb t.id id && is_temporary k)
    unfolding has_temporary passes
    temporary_is id = rw w.key

    number_is : is_temporary k ≡ true → key_bytes l s (key_in all t) ≡ number_of l s t
    number_is e = rw (w.key, w.leads.four (eqb-true k.id temporary_key e), w.leads.start)

  -- A unit of this id is one that has keys.
  owner_is : (u : Unit) (id : ℕ) → Owner id → has_temporary all id u ≡ true → Owner u.id
  unfolding has_temporary
  owner_is u id o e = let same = eqb-true u.id id (both (eqb u.id id) _ e).0 in rw same o

  pub numbered : (t k : Unit) → (Owner t.id → Pair l all t k) → Numbered t
  numbered t k w id o e =
      let p = w (owner_is t id o e) in
      number_is t k p (both (eqb t.id id) (is_temporary k) (sym (temporary_is t k p id) ∙ e)).1

  -- One that has no keys has no temporary one.
  pub without : (t : Unit) (id : ℕ) → (Owner t.id → ⊥) → Owner id → has_temporary all id t ≡ false
  without t id other o = go (has_temporary all id t) refl
    where
      go : (b : Bool) → has_temporary all id t ≡ b → has_temporary all id t ≡ false
      go true e = absurd (other (owner_is t id o e))
      go false e = e

  -- All of them.
  abbrev pub AllNumbered : List Unit → Type 0
  AllNumbered [] = record {}
  AllNumbered (u ∷ us) = Numbered u × AllNumbered us

  pub all_numbered : (us : List Unit) → Pairs l all us → AllNumbered us
  all_numbered [] p = record {}
  all_numbered (t ∷ []) p = ((λ id o e. absurd (p (owner_is t id o e))), record {})
  all_numbered (t ∷ k ∷ us) p = (numbered t k p.0, all_numbered (k ∷ us) p.1)
