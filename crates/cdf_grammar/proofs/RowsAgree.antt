-- The rows agree with the content models of the productions: in every state they allow the same to follow.
use Rattle.std.proofs.Common.{ℕ, ◌<◌, ◌≤◌, ◌≡◌, refl, sym, ap, subst, Bool, true, false, cond, List, [], ◌∷◌, ◌↔◌, arith, T, eqb, ltb, ltb→lt, get_or}
use mathlib.Core.Logic.Iff
use mathlib.Core.Option.{Option, none, some}
use Rattle.cdf_unit_table.specs.Ids.{stream, call, parameter, er_group, template, temporary_key, template_key, field, relation, ordered_relation}
use Rattle.cdf_unit_table.specs.Ids.{entity_key, file_group, line, ids_end}
use Rattle.cdf_unit_table.specs.States.{parents, states_end, admit, opens, nothing, complete}
use Rattle.cdf_unit_table.proofs.Rows.{admit_below, admit_unknown, from_parents, none_opens}
use Rattle.cdf_grammar.specs.Content.{Content, empty, Spells}
use Rattle.cdf_grammar.specs.Published.{production_of}
use Rattle.cdf_grammar.proofs.Fits.{through}
use Rattle.cdf_unit_table.proofs.Tables.{up_to, same_below, same}
use Rattle.cdf_grammar.proofs.Spelling.{Allows, left_after, may_end, within, allows_none, allows_first, after_beyond}
use Rattle.cdf_grammar.proofs.KindsAgree.{agreed}

-- What may come in a unit that has had nothing,
unit : ℕ → Option Content
unit id = some (production_of id).content

-- and what is left in each state, from 0, which is none. A unit that was skipped takes nothing more.
expectations : List (Option Content)
expectations =
    none
    ∷ unit stream
    ∷ left_after call (unit stream)
    ∷ left_after er_group (left_after call (unit stream))
    ∷ some empty
    ∷ unit er_group
    ∷ left_after template (unit er_group)
    ∷ some empty
    ∷ unit file_group
    ∷ left_after line (unit file_group)
    ∷ some empty
    ∷ unit call
    ∷ left_after parameter (unit call)
    ∷ some empty
    ∷ unit template
    ∷ left_after temporary_key (unit template)
    ∷ left_after template_key (unit template)
    ∷ left_after field (left_after template_key (unit template))
    ∷ some empty
    ∷ unit relation
    ∷ left_after entity_key (unit relation)
    ∷ left_after entity_key (left_after entity_key (unit relation))
    ∷ some empty
    ∷ unit ordered_relation
    ∷ left_after entity_key (unit ordered_relation)
    ∷ left_after entity_key (left_after entity_key (unit ordered_relation))
    ∷ some empty
    ∷ unit entity_key
    ∷ left_after temporary_key (unit entity_key)
    ∷ left_after template_key (unit entity_key)
    ∷ some empty
    ∷ []

expects : ℕ → Option Content
expects state = get_or expectations state none

-- What is compared, in one table: whether the end may come, that only ids may, and what is left after each of these.
abbrev Outlook : Type 0
Outlook = Bool × Bool × List (Option Content)

by_content : ℕ → Outlook
by_content state = (may_end (expects state), within ids_end (expects state), up_to (λ c. left_after c (expects state)) ids_end)

by_rows : ℕ → Outlook
by_rows state = (complete state, true, up_to (λ c. expects (admit state c)) ids_end)

outlook : (h : ℕ) → h < states_end → by_content h ≡ by_rows h
unfolding by_content by_rows expects expectations unit production_of may_end left_after within complete admit
outlook = same_below by_content by_rows states_end refl

ended_agrees : (h : ℕ) → h < states_end → may_end (expects h) ≡ complete h
unfolding by_content by_rows
ended_agrees h k = ap (λ (o : Outlook). o.0) (outlook h k)

after_agrees : (h : ℕ) → h < states_end → (c : ℕ) → left_after c (expects h) ≡ expects (admit h c)
unfolding by_content by_rows expects expectations
after_agrees h k =
    same (λ c. left_after c (expects h)) (λ c. expects (admit h c)) ids_end (ap (λ (o : Outlook). o.2) (outlook h k)) beyond
  where
    beyond : (c : ℕ) → ids_end ≤ c → left_after c (expects h) ≡ expects (admit h c)
    beyond c b =
        rw (admit_unknown h c b)
        (after_beyond ids_end c b (expects h) (subst T (sym (ap (λ (o : Outlook). o.1) (outlook h k))) tt))

agrees : (cs : List ℕ) (h : ℕ) → h < states_end → Allows (expects h) cs ↔ (complete (through h cs) ≡ true)
unfolding through
agrees [] h k = rw (← ended_agrees h k) (allows_none (expects h))
agrees (c ∷ cs) h k =
    Iff.trans (allows_first (expects h) c cs) (rw (after_agrees h k c) (agrees cs (admit h c) (admit_below h c)))

-- Of a unit that has had nothing, at each id that admits others.
begins : ℕ → Option Content
begins id = cond (opens id) (expects (nothing id)) none

due : ℕ → Option Content
due id = cond (opens id) (unit id) none

begun : (id : ℕ) → begins id ≡ due id
unfolding begins due expects expectations unit production_of opens
begun = same begins due ids_end refl (λ id h. rw (none_opens id h))

pub first_below : (id : ℕ) → nothing id < states_end
unfolding nothing
first_below id =
    from_parents (λ n. n < states_end) (λ p. ltb p.first states_end) (λ p. eqb p.id id) (λ p. p.first) (omega arith)
    (λ p t e. ltb→lt p.first states_end t) parents tt

pub content_agrees : (id : ℕ) → opens id ≡ true → (cs : List ℕ) →
    Spells (production_of id).content cs ↔ (complete (through (nothing id) cs) ≡ true)
unfolding begins due unit
content_agrees id o cs =
    let same : expects (nothing id) ≡ some (production_of id).content = rw o at (begun id) in
    rw same at (agrees cs (nothing id) (first_below id))

pub leaf_agrees : (id : ℕ) → opens id ≡ false → (cs : List ℕ) → Spells (production_of id).content cs ↔ (cs ≡ [])
leaf_agrees id o cs = rw ((agreed id).leaf o) Iff.rfl
