-- Where the unit list of refused bytes stops, and why.
use Rattle.std.proofs.Common.{ℕ, ◌-◌, ◌≤◌, ◌≡◌, refl, sym, ap, ◌∙◌, Bool, true, false, List, [], ◌∷◌, ◌++◌, reverse, ◌⊎◌, inl, inr, arith, take, drop}
use Rattle.cdf_unit_table.specs.States.{complete}
use Rattle.cdf_unit_table.proofs.Bools.{clash}
use Rattle.cdf_unit_prefix.specs.Layout.{Layout}
use Rattle.cdf_unit_judge.specs.Judge.{judge_of, Judged, Fault, Found}
use Rattle.cdf_unit_judge.proofs.Faults.{told as fault-told}
use Rattle.cdf_unit_list.specs.Units.{after, open_at, closing_at, state_of, Next, whole, broken, unit_at, closed, within, or_else, next_at, End, fault, listing}
use Rattle.cdf_unit_list.specs.Check.{answer_of, answer, check_of}
use Rattle.cdf_unit_list.specs.Stack.{Step, refused}
use Rattle.cdf_unit_list.specs.declared.Unit.{Unit}
use Rattle.cdf_unit_list.proofs.Nested.{reaching, Nested}
use Rattle.cdf_unit_list.proofs.Agreement.{Agrees, both_end, both_refuse, both_list, first_agrees, next_agrees}
use Rattle.cdf_reader_spec.specs.Place.{ReaderPlace}
use Rattle.cdf_explain_spec.specs.Why.{kept_open, open_around, admitted_by, why_after, why_of}
use Rattle.cdf_explain_spec.specs.Claims.{Refused}
use Rattle.cdf_reader_runs.proofs.Looping.{Stands, Stops, at_end_lem, at_fault}
use Rattle.cdf_explain_spec.proofs.Stands.{final, why_after_lem}

pub agrees_broken : {us : List Unit} {m : Next} {x : Step} → Agrees us m x → (n at : ℕ) → x ≡ refused n at → m ≡ broken n at
agrees_broken both_end n at e = clash cc
agrees_broken both_refuse n at e = cc
agrees_broken (both_list few f) n at e = clash cc

-- Of the units that end at a position, closing goes through all, or stops at one that is incomplete.
pub record Incomplete (us cs : List Unit) : Type 0 where
  pub unit : Unit
  pub inner : List Unit
  pub outer : List Unit
  pub is : cs ≡ inner ++ (unit ∷ outer)
  pub kept : kept_open us cs ≡ unit ∷ outer
  pub tells : closed us cs ≡ broken 10 unit.start

pub by_closing : (us cs : List Unit) → ((closed us cs ≡ whole) × (kept_open us cs ≡ [])) ⊎ Incomplete us cs
unfolding closed kept_open
by_closing us [] = inl (refl, refl)
by_closing us (c ∷ cs) = go (complete (state_of us c)) refl (by_closing us cs)
  where
    go : (b : Bool) → complete (state_of us c) ≡ b → ((closed us cs ≡ whole) × (kept_open us cs ≡ [])) ⊎ Incomplete us cs →
        ((closed us (c ∷ cs) ≡ whole) × (kept_open us (c ∷ cs) ≡ [])) ⊎ Incomplete us (c ∷ cs)
    go true e (inl w) = inl (rw e w.0, rw e w.1)
    go true e (inr w) = inr (record {
      unit = w.unit;
      inner = c ∷ w.inner;
      outer = w.outer;
      is = rw w.is;
      kept = rw e w.kept;
      tells = rw e w.tells;
    })
    go false e w = inr (record { unit = c; inner = []; outer = cs; is = refl; kept = rw e; tells = rw e })

module _ (l : Layout) (s : List ℕ) where
  -- Behind the units listed, the last one first, comes a fault.
  abbrev pub Ends : List Unit → ℕ → ℕ → Type 0
  Ends [] n at = unit_at 0 (judge_of l true 0 s) ≡ broken n at
  Ends (u ∷ us) n at = (next_at l s (u ∷ us) (after u) ≡ broken n at) × Nested (after u) (after u) (reaching (after u) (u ∷ us))

  pub record Stopped : Type 0 where
    pub before : List Unit
    pub number : ℕ
    pub offset : ℕ
    pub units : (listing l s).units ≡ reverse before
    pub end : (listing l s).end ≡ fault number offset
    pub ends : Ends before number offset

  ends_there : (before : List Unit) (p : ReaderPlace) (n at : ℕ) → Stands l s before p (refused n at) → Ends before n at
  ends_there [] p n at h = agrees_broken (first_agrees l s true 0) n at (sym h.1)
  ends_there (u ∷ us) p n at h =
      let f = h.0.follow in
      rw (← h.0.position) (agrees_broken (next_agrees l s (u ∷ us) p.units p.position f) n at (sym h.1), f.nested)

  pub stopped : Refused l s → Stopped
  unfolding check_of answer answer_of
  stopped some = let f = final l s in go f.before f.place f.units f.stops refl f.stands
    where
      go : (before : List Unit) (p : ReaderPlace) → (listing l s).units ≡ reverse before → {x : Step} {e : End} → Stops l s x e → (listing l s).end ≡ e →
          Stands l s before p x → Stopped
      go before p all at_end_lem q h = absurd (some (rw q refl))
      go before p all (at_fault {n} {at}) q h =
          record { before = before; number = n; offset = at; units = all; end = q; ends = ends_there before p n at h }

  module _ (w : Stopped) where
    pub why_is : why_of l s ≡ record {
      number = w.number;
      offset = w.offset;
      units = reverse (open_around w.before);
      ids = admitted_by w.before (open_around w.before);
    }
    unfolding why_after
    why_is = why_after_lem l s w.before w.units ∙ ap (why_after w.before) w.end

    pub check_is : check_of l s ≡ record { number = w.number; value = w.offset }
    unfolding check_of answer answer_of
    check_is = rw w.end

  -- Either the units that end there close, and what the innermost open one has left is judged; or one of them is incomplete.
  pub record Judges (u : Unit) (us : List Unit) (n at : ℕ) : Type 0 where
    pub inner : Unit
    pub outer : List Unit
    pub stay : open_at (after u) (u ∷ us) ≡ inner ∷ outer
    pub around : open_around (u ∷ us) ≡ inner ∷ outer
    pub tells : unit_at (after u) (judge_of l false (state_of (u ∷ us) inner) (take (inner.end - after u) (drop (after u) s))) ≡ broken n at
    pub low : n ≤ 9

  pub record Lacking (u : Unit) (us : List Unit) (n at : ℕ) : Type 0 where
    pub closing : Incomplete (u ∷ us) (closing_at (after u) (u ∷ us))
    pub around : open_around (u ∷ us) ≡ closing.unit ∷ (closing.outer ++ open_at (after u) (u ∷ us))
    pub ten : n ≡ 10
    pub offset : at ≡ closing.unit.start

  fault_low : (root : Bool) (pos state : ℕ) (t : List ℕ) (n at : ℕ) → unit_at pos (judge_of l root state t) ≡ broken n at → n ≤ 9
  unfolding unit_at
  fault_low root pos state t n at e = go (judge_of l root state t) refl e
    where
      go : (j : Judged) → judge_of l root state t ≡ j → unit_at pos j ≡ broken n at → n ≤ 9
      go (Fault m k) q e = let same : m ≡ n = cc in omega (arith, (fault-told l root t state q).high)
      go (Found id action own len next) q e = clash cc

  pub start_low : (n at : ℕ) → Ends [] n at → n ≤ 9
  start_low = fault_low true 0 0 s

  pub by_end : (u : Unit) (us : List Unit) (n at : ℕ) → next_at l s (u ∷ us) (after u) ≡ broken n at → Judges u us n at ⊎ Lacking u us n at
  unfolding next_at or_else within open_around
  by_end u us n at e = go (by_closing (u ∷ us) (closing_at (after u) (u ∷ us)))
    where
      judges : kept_open (u ∷ us) (closing_at (after u) (u ∷ us)) ≡ [] → (os : List Unit) → open_at (after u) (u ∷ us) ≡ os →
          within l s (u ∷ us) (after u) os ≡ broken n at → Judges u us n at
      judges k [] q e = clash cc
      judges k (o ∷ os) q e = record {
        inner = o;
        outer = os;
        stay = q;
        around = rw (k, q);
        tells = e;
        low = fault_low false (after u) (state_of (u ∷ us) o) (take (o.end - after u) (drop (after u) s)) n at e;
      }

      go : ((closed (u ∷ us) (closing_at (after u) (u ∷ us)) ≡ whole) × (kept_open (u ∷ us) (closing_at (after u) (u ∷ us)) ≡ []))
          ⊎ Incomplete (u ∷ us) (closing_at (after u) (u ∷ us)) → Judges u us n at ⊎ Lacking u us n at
      go (inl w) = inl (judges w.1 (open_at (after u) (u ∷ us)) refl (rw w.0 at e))
      go (inr w) =
          let told : broken 10 w.unit.start ≡ broken n at = rw w.tells at e in
          inr (record { closing = w; around = rw w.kept; ten = cc; offset = cc })
