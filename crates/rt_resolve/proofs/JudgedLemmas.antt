-- What entities say one after the other.
use Rattle.std.proofs.Common.{◌≡◌, ℕ, ◌+◌, ◌<◌, ◌≤◌, suc, List, [], ◌∷◌, ◌++◌, length, get_or, take, Option, Result, refl, sym, ap, subst, ◌∙◌, add-one, arith}
use Rattle.std.proofs.Math.Seq.{take-suc}
use Rattle.std.proofs.lemmas.List.{length-take-le, take_all}
use Rattle.otp_model.specs.Resolution.{judged, judged_after, judged_from, names_after}
use Rattle.otp_model.specs.declared.change.Change.{Change}
use Rattle.otp_model.specs.declared.message.Entity.{Entity}
use Rattle.otp_model.specs.declared.run_name.RunName.{RunName}
use Rattle.otp_model.specs.declared.timetable.Feed.{Feed}
use Rattle.rt_resolve.specs.Tallies.{names_in, Tallies}
use Rattle.rt_resolve.specs.declared.tally.Tally.{Tally}
use Rattle.rt_resolve.proofs.CountLemmas.{counts_small}

module _ (feed : Feed) (timestamp : Option ℕ) where
  judged_last : (names : List RunName) (entities : List Entity) (entity : Entity)
      → judged_from feed timestamp names (entities ++ entity ∷ [])
      ≡ judged_from feed timestamp names entities ++ judged_after (names_in names (judged_from feed timestamp names entities)) (judged feed timestamp entity) ∷ []
  unfolding judged_from
  judged_last names [] entity = refl
  judged_last names (first ∷ entities) entity =
      let answer = judged_after names (judged feed timestamp first) in
      ap (λ (answers : List (Result Change ℕ)). answer ∷ answers) (judged_last (names_after names answer) entities entity)

  length-judged : (names : List RunName) (entities : List Entity) → length (judged_from feed timestamp names entities) ≡ length entities
  unfolding judged_from
  length-judged names [] = refl
  length-judged names (first ∷ entities) =
      let answer = judged_after names (judged feed timestamp first) in ap suc (length-judged (names_after names answer) entities)

  -- the answers to the first entities
  abbrev pub answers_to : ℕ → List Entity → List (Result Change ℕ)
  answers_to i entities = judged_from feed timestamp [] (take i entities)

  -- one more of them
  pub judged_more : (entities : List Entity) (i : ℕ) (entity : Entity) → i < length entities → entity ≡ get_or entities i entity
      → answers_to i entities ++ judged_after (names_in [] (answers_to i entities)) (judged feed timestamp entity) ∷ [] ≡ answers_to (i + 1) entities
  judged_more entities i entity less is =
      let more : take (i + 1) entities ≡ take i entities ++ entity ∷ []
      = rw add-one (take-suc entities i entity less ∙ ap (λ (e : Entity). take i entities ++ e ∷ []) (sym is)) in
      sym (ap (judged_from feed timestamp []) more ∙ judged_last [] (take i entities) entity)

  pub judged_whole : (entities : List Entity) (i : ℕ) → length entities ≤ i → answers_to i entities ≡ judged_from feed timestamp [] entities
  judged_whole entities i over = ap (judged_from feed timestamp []) (take_all i entities over)

  -- a count of a tally is at most the number of entities that it has seen
  pub tally_small : (entities : List Entity) (i : ℕ) (tally : Tally) (place : ℕ) → i ≤ length entities → Tallies (answers_to i entities) tally → get_or tally.ignored place 0 ≤ i
  tally_small entities i tally place within so_far =
      let few = counts_small (answers_to i entities) place in
      let long : length (answers_to i entities) ≡ i = length-judged [] (take i entities) ∙ length-take-le i entities within in
      subst (λ (ignored : List ℕ). get_or ignored place 0 ≤ i) (sym so_far.reasons) (omega (arith, few, long))
