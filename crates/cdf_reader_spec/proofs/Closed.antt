-- Closing by ends alone: which ranks it leaves, and which rank is next, where units end at the position and where none does.
use Rattle.std.proofs.Common.{ℕ, suc, ◌≤◌, ◌≡◌, refl, sym, ◌∙◌, Bool, true, false, cond, ◌&&◌, List, [], ◌∷◌, ◌++◌, arith, leb-true, eq-eqb, ne_eqb}
use Rattle.std.proofs.Common.{leb, eqb, length}
use Rattle.cdf_unit_table.specs.States.{complete}
use Rattle.cdf_unit_table.proofs.Bools.{both, clash}
use Rattle.cdf_unit_prefix.specs.Layout.{Layout}
use Rattle.cdf_unit_list.specs.Stack.{incomplete, left, close}
use Rattle.cdf_unit_list.specs.declared.Open.{Open}
use Rattle.cdf_reader_spec.specs.Place.{nested, positioned, every}
use Rattle.cdf_reader_spec.specs.Closing.{unclosed_ranks}
use Rattle.cdf_reader_spec.specs.Ranking.{rank_after}
use Rattle.cdf_reader_spec.proofs.Fitting.{Ends}
use Rattle.cdf_reader_spec.proofs.Suffix.{least, ends_least}

-- Where nothing closes, nothing changes.
module _ (pos : ℕ) (o : Open) (os : List Open) (stays : o.end ≡ pos → ⊥) where
  pub none_closes : close (o ∷ os) pos ≡ left (o ∷ os)
  unfolding close
  none_closes = rw (ne_eqb o.end pos stays)

  pub same_rank : (ks : List ℕ) (rank : ℕ) → rank_after (o ∷ os) ks pos rank ≡ rank
  unfolding rank_after
  same_rank [] rank = refl
  same_rank (k ∷ ks) rank = rw (ne_eqb o.end pos stays)

  pub same_ranks : (ks : List ℕ) → unclosed_ranks (o ∷ os) ks pos ≡ ks
  unfolding unclosed_ranks
  same_ranks [] = refl
  same_ranks (k ∷ ks) = rw (ne_eqb o.end pos stays)

-- Units inside one that ends at a position, which is not past the innermost's end, end there too.
abbrev pub EndAt : ℕ → List Open → Type 0
EndAt pos os = every (λ o. eqb o.end pos) os ≡ true

ends_there : (n pos : ℕ) (x : Open) (inside : List Open) (o : Open) (os : List Open) → pos ≤ x.end →
    Ends n (x ∷ (inside ++ (o ∷ os))) → o.end ≡ pos → EndAt pos (x ∷ inside)
unfolding every nested
ends_there n pos x [] o os h e z =
    rw (eq-eqb x.end pos (omega (arith, least n x.end x [] o os (omega arith) e)))
ends_there n pos x (y ∷ inside) o os h e z =
    let w = both (leb x.end y.end) _ e in
    rw (eq-eqb x.end pos (omega (arith, least n x.end x (y ∷ inside) o os (omega arith) e)))
    (ends_there n pos y inside o os (omega (arith, leb-true x.end y.end w.0)) w.1 z)

pub inside_ends : (l : Layout) (n pos : ℕ) (inside : List Open) (o : Open) (os : List Open) →
    positioned l pos (inside ++ (o ∷ os)) ≡ true → Ends n (inside ++ (o ∷ os)) → o.end ≡ pos → EndAt pos inside
unfolding every
inside_ends l n pos [] o os h e z = refl
inside_ends l n pos (x ∷ inside) o os h e z = ends_there n pos x inside o os (ends_least l n pos [] x (inside ++ (o ∷ os)) e h) e z

-- They close with it, where none is incomplete: its rank is what counts, and the ranks around it are left.
module _ (pos : ℕ) (c q : Open) (os : List Open) (k : ℕ) (ks : List ℕ) (ws : List Open)
    (ends : c.end ≡ pos) (stays : q.end ≡ pos → ⊥) where
  pub record After (rank : ℕ) (ranks : List ℕ) : Type 0 where
    pub next : rank ≡ suc k
    pub kept : ranks ≡ ks
    pub units : ws ≡ q ∷ os

  -- One more closes: `more` is what is said of the others.
  further : (a b : Bool) (x : Open) (rest : List Open) (rank next : ℕ) (ranks kept : List ℕ) → a ≡ true →
      (close rest pos ≡ left ws → After next kept) →
      cond a (cond b (close rest pos) (incomplete x.start)) (left (x ∷ rest)) ≡ left ws →
      After (cond (a && b) next rank) (cond (a && b) kept ranks)
  further true true x rest rank next ranks kept t more e = more e
  further true false x rest rank next ranks kept t more e = clash cc
  further false b x rest rank next ranks kept t more e = clash cc

  pub closed : (inside : List Open) (js : List ℕ) (rank : ℕ) → EndAt pos inside → length js ≡ length inside →
      close (inside ++ (c ∷ q ∷ os)) pos ≡ left ws →
      After (rank_after (inside ++ (c ∷ q ∷ os)) (js ++ (k ∷ ks)) pos rank) (unclosed_ranks (inside ++ (c ∷ q ∷ os)) (js ++ (k ∷ ks)) pos)
  unfolding close rank_after unclosed_ranks every
  closed [] [] rank t m e =
      further (eqb c.end pos) (complete c.state) c (q ∷ os) rank (rank_after (q ∷ os) ks pos (suc k)) (k ∷ ks)
      (unclosed_ranks (q ∷ os) ks pos) (eq-eqb c.end pos ends)
      (λ f. record {
        next = same_rank pos q os stays ks (suc k);
        kept = same_ranks pos q os stays ks;
        units = let g = sym f ∙ none_closes pos q os stays in cc;
      })
      e
  closed [] (j ∷ js) rank t m e = absurd (omega (arith, m))
  closed (x ∷ inside) [] rank t m e = absurd (omega (arith, m))
  closed (x ∷ inside) (j ∷ js) rank t m e =
      let w = both (eqb x.end pos) _ t in
      further (eqb x.end pos) (complete x.state) x (inside ++ (c ∷ q ∷ os)) rank
      (rank_after (inside ++ (c ∷ q ∷ os)) (js ++ (k ∷ ks)) pos (suc j)) (j ∷ (js ++ (k ∷ ks)))
      (unclosed_ranks (inside ++ (c ∷ q ∷ os)) (js ++ (k ∷ ks)) pos) w.0 (closed inside js (suc j) w.1 (omega (arith, m))) e
