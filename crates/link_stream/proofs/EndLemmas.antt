-- How a connection ends before a request.
use Rattle.std.proofs.Common.{◌≡◌, inl, inr, sym, ap, subst, ◌∙◌, List, [], ℕ, Option, Some}
use Rattle.http_read.specs.OneItem.{HasOneItem}
use Rattle.http_read.specs.declared.request.HeadFault.{HeadFault}
use Rattle.http_read.specs.declared.request.Next.TheVariants as next
use Rattle.link_stream.specs.OneEnd.{HasOneEnd, IsOfBytes}
use Rattle.link_stream.specs.Transcript.{EndsBefore}
use Rattle.link_stream.specs.declared.stream.StreamEnd.{StreamEnd}
use Rattle.link_stream.specs.declared.stream.StreamEnd.TheVariants as ended

same_refusal : (f h : HeadFault) → next.Refused f ≡ next.Refused h → f ≡ h
same_refusal f h same = cc same

module _ (one : HasOneItem) (refusal : HeadFault → List ℕ) (no_memory bytes : List ℕ) where
  -- these bytes are written last, and the connection ends so
  abbrev Ends : List ℕ → StreamEnd → Option (List ℕ) → Type 0
  Ends written end unread = EndsBefore refusal no_memory (Some bytes) written end unread

  ended_twice : (v w : List ℕ) (u t : Option (List ℕ)) → Ends v ended.Ended u → Ends w ended.Ended t → v ≡ w
  ended_twice v w u t (inl first) (inl second) = first.1 ∙ sym second.1
  ended_twice v w u t (inl first) (inr second) = absurd (let same = one bytes next.End (next.Refused second.0) [] [] first.0 second.1 in cc same)
  ended_twice v w u t (inr first) (inl second) = absurd (let same = one bytes (next.Refused first.0) next.End [] [] first.1 second.0 in cc same)
  ended_twice v w u t (inr first) (inr second) =
      first.2 ∙ (ap refusal (same_refusal first.0 second.0 (one bytes (next.Refused first.0) (next.Refused second.0) [] [] first.1 second.1)) ∙ sym second.2)

  not_both : (v w : List ℕ) (u t : Option (List ℕ)) → Ends v ended.Ended u → Ends w ended.CutShort t → ⊥
  not_both v w u t (inl first) second = let same = one bytes next.End next.CutShort [] [] first.0 second.0 in cc same
  not_both v w u t (inr first) second = let same = one bytes (next.Refused first.0) next.CutShort [] [] first.1 second.0 in cc same

  ends_alike : (a b : StreamEnd) (v w : List ℕ) (u t : Option (List ℕ)) → IsOfBytes a → IsOfBytes b → Ends v a u → Ends w b t → (a ≡ b) × (v ≡ w)
  ends_alike a b v w u t (inl p) (inl q) first second =
      (p ∙ sym q, ended_twice v w u t (subst (λ end. Ends v end u) p first) (subst (λ end. Ends w end t) q second))
  ends_alike a b v w u t (inl p) (inr q) first second =
      absurd (not_both v w u t (subst (λ end. Ends v end u) p first) (subst (λ end. Ends w end t) q second))
  ends_alike a b v w u t (inr p) (inl q) first second =
      absurd (not_both w v t u (subst (λ end. Ends w end t) q second) (subst (λ end. Ends v end u) p first))
  ends_alike a b v w u t (inr p) (inr q) first second =
      let cut : Ends v ended.CutShort u = subst (λ end. Ends v end u) p first in
      let again : Ends w ended.CutShort t = subst (λ end. Ends w end t) q second in
      (p ∙ sym q, cut.1 ∙ sym again.1)

pub has_one_end : HasOneItem → HasOneEnd
has_one_end one refusal no_memory bytes a b v w u t = ends_alike one refusal no_memory bytes a b v w u t
