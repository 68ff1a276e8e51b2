-- Where closing leaves a unit open, either none ends at the position or one is the outermost that does.
use Rattle.std.proofs.Common.{ℕ, ◌+◌, ◌≡◌, refl, sym, ◌∙◌, Bool, true, false, cond, ◌⊎◌, inl, inr, List, [], ◌∷◌, ◌++◌, append_assoc, arith, eqb-true}
use Rattle.std.proofs.Common.{eq-eqb, eqb, length, length-append}
use Rattle.std.proofs.lemmas.Bool.{eqb-false}
use Rattle.cdf_unit_table.specs.States.{complete}
use Rattle.cdf_unit_table.proofs.Bools.{clash}
use Rattle.cdf_unit_list.specs.Stack.{incomplete, left, close}
use Rattle.cdf_unit_list.specs.declared.Open.{Open}
use Rattle.cdf_reader_spec.specs.Place.{ReaderPlace}
use Rattle.cdf_reader_spec.specs.Depths.{NoneCloses, OutermostClosed}

module _ (p : ReaderPlace) (o : Open) (ws : List Open) where
  -- One that ends there is complete, and closing goes on around it.
  around : (x : Open) (rest : List Open) → x.end ≡ p.position → close (x ∷ rest) p.position ≡ left (o ∷ ws) →
      close rest p.position ≡ left (o ∷ ws)
  unfolding close
  around x rest z e = go (complete x.state) (rw (eq-eqb x.end p.position z) at e)
    where
      go : (b : Bool) → cond b (close rest p.position) (incomplete x.start) ≡ left (o ∷ ws) → close rest p.position ≡ left (o ∷ ws)
      go true e = e
      go false e = clash cc

  -- The outermost that does, from one on that does.
  outermost : (inside : List Open) (x : Open) (rest : List Open) (js : List ℕ) (k : ℕ) (ks : List ℕ) → p.units ≡ inside ++ (x ∷ rest) →
      p.ranks ≡ js ++ (k ∷ ks) → length js ≡ length inside → length ks ≡ length rest → x.end ≡ p.position →
      close rest p.position ≡ left (o ∷ ws) → OutermostClosed p
  unfolding close
  outermost inside x [] js k ks units ranks each more z e = clash cc
  outermost inside x (y ∷ rest) js k [] units ranks each more z e = absurd (omega (arith, more))
  outermost inside x (y ∷ rest) js k (i ∷ ks) units ranks each more z e =
      go (eqb y.end p.position) refl
      (λ at. outermost (inside ++ (x ∷ [])) y rest (js ++ (k ∷ [])) i ks (units ∙ sym (append_assoc inside (x ∷ []) (y ∷ rest)))
      (ranks ∙ sym (append_assoc js (k ∷ []) (i ∷ ks))) (simp length-append (omega (arith, each))) (omega (arith, more)) at
      (around y rest at e))
    where
      go : (b : Bool) → eqb y.end p.position ≡ b → (y.end ≡ p.position → OutermostClosed p) → OutermostClosed p
      go true t further = further (eqb-true y.end p.position t)
      go false t further = record {
        inside = inside;
        unit = x;
        parent = y;
        around = rest;
        units = units;
        ends = z;
        stays = eqb-false y.end p.position t;
        inside_ranks = js;
        rank = k;
        around_ranks = i ∷ ks;
        ranks = ranks;
        each = each;
      }

  pub cases : (us : List Open) (ks : List ℕ) → p.units ≡ us → p.ranks ≡ ks → length ks ≡ length us →
      close us p.position ≡ left (o ∷ ws) → OutermostClosed p ⊎ NoneCloses p
  unfolding close
  cases [] ks units ranks each e = clash cc
  cases (x ∷ us) ks units ranks each e = go (eqb x.end p.position) refl ks ranks each
    where
      go : (b : Bool) → eqb x.end p.position ≡ b → (ks : List ℕ) → p.ranks ≡ ks → length ks ≡ length (x ∷ us) →
          OutermostClosed p ⊎ NoneCloses p
      go true t [] ranks each = absurd (omega (arith, each))
      go true t (k ∷ ks) ranks each =
          let at = eqb-true x.end p.position t in
          inl (outermost [] x us [] k ks units ranks refl (omega (arith, each)) at (around x us at e))
      go false t ks ranks each = inr (record { innermost = x; around = us; units = units; stays = eqb-false x.end p.position t })
