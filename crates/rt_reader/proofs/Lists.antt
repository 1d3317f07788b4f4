-- What fields give, where a field more stands at the end.
use Rattle.std.proofs.Common.{◌≡◌, ◌≤◌, List, [], ◌∷◌, ◌++◌, length, map, Option, Some, None, refl, sym, ap, ◌∙◌, append_assoc, arith}
use Rattle.std.specs.Prelude.{is_some, option_map, option_to_list}
use Rattle.std.specs.List.{AllByRecursion}
use Rattle.std.proofs.lemmas.List.{append-nil}
use Rattle.pb_wire.specs.declared.field.Field.{Field}
use Rattle.rt_reader.specs.Fields.{Part, later}
use Rattle.rt_reader.specs.Tables.{all, last_in, some_in}
use Rattle.rt_reader.specs.Spelling.{IsOnce, IsEach}

pub all_snoc : {X : Type 0} (g : Field → Option X) (fs : List Field) (f : Field) → all g (fs ++ f ∷ []) ≡ all g fs ++ option_to_list (g f)
all_snoc g [] f = append-nil (option_to_list (g f))
all_snoc g (h ∷ fs) f = ap (λ z. option_to_list (g h) ++ z) (all_snoc g fs f) ∙ sym (append_assoc (option_to_list (g h)) (all g fs) (option_to_list (g f)))

map_head : {X Y : Type 0} (h : X → Y) (o : Option X) (xs : List X) (ys : List Y) → ys ≡ map h xs → option_to_list (option_map h o) ++ ys ≡ map h (option_to_list o ++ xs)
map_head h None xs ys e = e
map_head h (Some x) xs ys e = ap (λ z. h x ∷ z) e

-- what is made of what the fields give
pub all_map : {X Y : Type 0} (h : X → Y) (g : Field → Option X) (fs : List Field) → all (λ f. option_map h (g f)) fs ≡ map h (all g fs)
all_map h g [] = refl
all_map h g (f ∷ fs) = map_head h (g f) (all g fs) (all (λ f. option_map h (g f)) fs) (all_map h g fs)

pub some_keeps : {X : Type 0} (o : Option X) (ps : List Part) (q : Option Part) (h : Part → X) → is_some o ≡ some_in ps → is_some (later o (option_map h q)) ≡ some_in (ps ++ option_to_list q)
some_keeps o ps None h e = rw (append-nil ps) e
some_keeps o [] (Some p) h e = refl
some_keeps o (q ∷ ps) (Some p) h e = refl

-- one part at most, and each spells its value
pub once_found : {X : Type 0} (P : Part → X → Type 0) (h : Part → X) (ps : List Part) → length ps ≤ 1 → AllByRecursion (λ p. P p (h p)) ps → IsOnce P ps (last_in (map h ps))
once_found P h [] few all_of = tt
once_found P h (p ∷ []) few all_of = all_of.0
once_found P h (p ∷ q ∷ ps) few all_of = absurd (omega arith)

pub each_found : {X : Type 0} (P : Part → X → Type 0) (h : Part → X) (ps : List Part) → AllByRecursion (λ p. P p (h p)) ps → IsEach P ps (map h ps)
each_found P h [] all_of = tt
each_found P h (p ∷ ps) all_of = (all_of.0, each_found P h ps all_of.1)

pub all_imply : {A : Type 0} (P Q : A → Type 0) (xs : List A) → ((x : A) → P x → Q x) → AllByRecursion P xs → AllByRecursion Q xs
all_imply P Q [] f h = tt
all_imply P Q (x ∷ xs) f h = (f x h.0, all_imply P Q xs f h.1)

-- a value that is spelt is the one that is read, and nothing is wrong with its bytes
pub record IsRead {X : Type 0} (P : Part → X → Type 0) (wrong : Part → Type 0) (h : Part → X) : Type 0 where
  pub right : (p : Part) (x : X) → P p x → wrong p
  pub same : (p : Part) (x : X) → P p x → x ≡ h p

pub once_only : {X : Type 0} (P : Part → X → Type 0) (R : Part → Type 0) (h : Part → X) (ps : List Part) (o : Option X) → IsRead P R h → IsOnce P ps o
    → (length ps ≤ 1) × AllByRecursion R ps × (o ≡ last_in (map h ps))
once_only P R h [] None r k = (omega arith, tt, refl)
once_only P R h [] (Some x) r k = absurd k
once_only P R h (p ∷ []) None r k = absurd k
once_only P R h (p ∷ []) (Some x) r k = (omega arith, (r.right p x k, tt), ap Some (r.same p x k))
once_only P R h (p ∷ q ∷ ps) None r k = absurd k
once_only P R h (p ∷ q ∷ ps) (Some x) r k = absurd k

pub each_only : {X : Type 0} (P : Part → X → Type 0) (R : Part → Type 0) (h : Part → X) (ps : List Part) (xs : List X) → IsRead P R h → IsEach P ps xs
    → AllByRecursion R ps × (xs ≡ map h ps)
each_only P R h [] [] r k = (tt, refl)
each_only P R h [] (x ∷ xs) r k = absurd k
each_only P R h (p ∷ ps) [] r k = absurd k
each_only P R h (p ∷ ps) (x ∷ xs) r k =
    let i = each_only P R h ps xs r k.1 in
    ((r.right p x k.0, i.0), ap (λ z. z ∷ xs) (r.same p x k.0) ∙ ap (λ z. h p ∷ z) i.1)
