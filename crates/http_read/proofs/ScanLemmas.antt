-- What a scan knows, step by step.
use Rattle.std.proofs.Common.{◌≡◌, ℕ, ◌+◌, ◌-◌, ◌<◌, ◌≤◌, ◌⊎◌, inl, inr, Bool, true, false, eqb, List, [], ◌∷◌, ◌++◌, length, take, drop, get_or, sym, ap, refl, subst, ◌∙◌, append_assoc, arith}
use Rattle.std.specs.List.{concat}
use Rattle.std.proofs.lemmas.Bool.{cases_lt, false≢true}
use Rattle.std.proofs.lemmas.List.{length_push, take_all, take_more, take-append-drop, length-take-le, drop-take}
use Rattle.http_read.specs.Lines.{whole_lines, front, is_empty_line, is_empty_at, IsMark, HasNoMark, IsSpent, HasHead}
use Rattle.http_read.specs.Scan.{IsScan, IsAtMark}
use Rattle.http_read.specs.declared.scan.Scan.{Scan}
use Rattle.http_read.proofs.LineLemmas.{lines_more, line_kept, front_long, lines_byte, length_feed, concat_feed, line_feed_at, has_head_more}

-- among the lines that were looked at there is no mark
none_yet : (p bytes : List ℕ) (s : Scan) (request mark : ℕ) → IsScan p s → ((i : ℕ) → i < s.feeds → is_empty_at bytes i ≡ is_empty_at p i) → IsMark bytes request mark → mark < s.feeds → ⊥
none_yet p bytes s request mark i same m within =
    let after = m.after in
    elim (cases_lt request s.blank) [
      | inl early ↦ false≢true (sym m.first ∙ (same request (omega arith) ∙ i.blank request early))
      | inr late ↦ cases s.begun refl late
    ]
  where
    cases : (v : Bool) → s.begun ≡ v → s.blank ≤ request → ⊥
    cases false idle late = let all = i.idle idle in let after = m.after in absurd (omega arith)
    cases true began late = let after = m.after in false≢true (sym (i.later began mark (omega arith) within) ∙ (sym (same mark within) ∙ m.last))

pub scan_no_mark : (p : List ℕ) (s : Scan) → IsScan p s → HasNoMark p
scan_no_mark p s i request mark m = let whole = m.whole in let feeds = i.feeds in none_yet p p s request mark i (λ k h. refl) m (omega arith)

-- nor further on, once the limits are reached
pub scan_spent : (p more : List ℕ) (s : Scan) → IsScan p s → (67 ≤ s.feeds) ⊎ (16384 ≤ length p) → HasNoMark (p ++ more)
scan_spent p more s i spent request mark m =
    let feeds = i.feeds in
    elim (cases_lt mark s.feeds) [
      | inl early ↦ none_yet p (p ++ more) s request mark i (λ k h. line_kept p more k (omega arith)) m early
      | inr late ↦ elim spent [
        | inl many ↦ let few = m.feeds in absurd (omega arith)
        | inr long ↦ let short = m.size in let whole = m.whole in let far = front_long (mark + 1) p more (omega arith) (omega arith) in absurd (omega arith)
      ]
    ]

-- a byte that is no line feed
pub scan_byte : (p : List ℕ) (x : ℕ) (s : Scan) → eqb x 10 ≡ false → IsScan p s → IsScan (p ++ x ∷ []) (record { at = s.at + 1; line = s.line; feeds = s.feeds; blank = s.blank; begun = s.begun })
scan_byte p x s other i =
    let e = lines_byte p x other in
    record {
      size = let size = i.size in omega (arith, length_push p x);
      feeds = i.feeds ∙ ap length (sym e);
      line = i.line ∙ ap (λ l. length (concat l)) (sym e);
      within = let w = i.within in omega arith;
      blank = λ k h. ap (λ l. is_empty_line (get_or l k [])) e ∙ i.blank k h;
      idle = i.idle;
      first = λ began. ((i.first began).0, ap (λ l. is_empty_line (get_or l s.blank [])) e ∙ (i.first began).1);
      later = λ began k h l. ap (λ z. is_empty_line (get_or z k [])) e ∙ i.later began k h l;
    }

-- a line feed after a line that is empty, before the request line
pub scan_blank : (p : List ℕ) (s : Scan) → s.begun ≡ false → is_empty_line (drop s.line (p ++ 10 ∷ [])) ≡ true → IsScan p s → IsScan (p ++ 10 ∷ []) (record { at = s.at + 1; line = s.at + 1; feeds = s.feeds + 1; blank = s.blank + 1; begun = s.begun })
scan_blank p s idle empty i =
    let size = i.size in
    let feeds = i.feeds in
    let all = i.idle idle in
    let here = line_feed_at p s.feeds feeds ∙ (ap (λ n. is_empty_line (drop n (p ++ 10 ∷ []))) (sym i.line) ∙ empty) in
    record {
      size = omega (arith, length_push p 10);
      feeds = omega (arith, length_feed p);
      line = omega (arith, ap length (concat_feed p), length_push p 10);
      within = omega arith;
      blank = λ k h. elim (cases_lt k s.feeds) [
        | inl early ↦ line_kept p (10 ∷ []) k (omega arith) ∙ i.blank k (omega arith)
        | inr late ↦ let same : k ≡ s.feeds = omega arith in ap (is_empty_at (p ++ 10 ∷ [])) same ∙ here
      ];
      idle = λ e. omega arith;
      first = λ began. absurd (false≢true (sym idle ∙ began));
      later = λ began. absurd (false≢true (sym idle ∙ began));
    }

-- a line feed after the request line, or after a line behind it
pub scan_line : (p : List ℕ) (s : Scan) → is_empty_line (drop s.line (p ++ 10 ∷ [])) ≡ false → IsScan p s → IsScan (p ++ 10 ∷ []) (record { at = s.at + 1; line = s.at + 1; feeds = s.feeds + 1; blank = s.blank; begun = true })
scan_line p s full i =
    let size = i.size in
    let feeds = i.feeds in
    let here = line_feed_at p s.feeds feeds ∙ (ap (λ n. is_empty_line (drop n (p ++ 10 ∷ []))) (sym i.line) ∙ full) in
    record {
      size = omega (arith, length_push p 10);
      feeds = omega (arith, length_feed p);
      line = omega (arith, ap length (concat_feed p), length_push p 10);
      within = omega arith;
      blank = λ k h. before k h s.begun refl;
      idle = λ e. absurd (false≢true (sym e));
      first = λ began. first here s.begun refl;
      later = λ began k h l. elim (cases_lt k s.feeds) [
        | inl early ↦ between k h early s.begun refl
        | inr late ↦ let same : k ≡ s.feeds = omega arith in ap (is_empty_at (p ++ 10 ∷ [])) same ∙ here
      ];
    }
  where
    bounded : (v : Bool) → s.begun ≡ v → s.blank ≤ s.feeds
    bounded false idle = let e = i.idle idle in omega arith
    bounded true began = let e = (i.first began).0 in omega arith

    before : (k : ℕ) → k < s.blank → (v : Bool) → s.begun ≡ v → is_empty_at (p ++ 10 ∷ []) k ≡ true
    before k h v e = let b = bounded v e in let feeds = i.feeds in line_kept p (10 ∷ []) k (omega arith) ∙ i.blank k h

    first : is_empty_at (p ++ 10 ∷ []) s.feeds ≡ false → (v : Bool) → s.begun ≡ v → (s.blank < s.feeds + 1) × (is_empty_at (p ++ 10 ∷ []) s.blank ≡ false)
    first here false idle = let e = i.idle idle in (omega arith, ap (is_empty_at (p ++ 10 ∷ [])) e ∙ here)
    first here true began = let e = i.first began in let feeds = i.feeds in (omega arith, line_kept p (10 ∷ []) s.blank (omega arith) ∙ e.1)

    between : (k : ℕ) → s.blank < k → k < s.feeds → (v : Bool) → s.begun ≡ v → is_empty_at (p ++ 10 ∷ []) k ≡ false
    between k h l false idle = let e = i.idle idle in absurd (omega arith)
    between k h l true began = let feeds = i.feeds in line_kept p (10 ∷ []) k (omega arith) ∙ i.later began k h l

-- a line feed after an empty line behind the request line: the mark
pub scan_mark : (p : List ℕ) (s : Scan) → s.begun ≡ true → is_empty_line (drop s.line (p ++ 10 ∷ [])) ≡ true → s.feeds < 67 → length p < 16384 → IsScan p s → IsAtMark (p ++ 10 ∷ []) (record { at = s.at + 1; line = s.at + 1; feeds = s.feeds + 1; blank = s.blank; begun = s.begun })
scan_mark p s began empty few short i =
    let size = i.size in
    let feeds = i.feeds in
    let one = i.first began in
    let here = line_feed_at p s.feeds feeds ∙ (ap (λ n. is_empty_line (drop n (p ++ 10 ∷ []))) (sym i.line) ∙ empty) in
    let all : front (s.feeds + 1) (p ++ 10 ∷ []) ≡ p ++ 10 ∷ [] = ap concat (take_all (s.feeds + 1) (whole_lines (p ++ 10 ∷ [])) (omega (arith, length_feed p))) ∙ concat_feed p in
    record {
      head = record {
        request = s.blank;
        mark = s.feeds;
        marked = record {
          whole = omega (arith, length_feed p);
          after = one.0;
          before = λ k h. line_kept p (10 ∷ []) k (omega arith) ∙ i.blank k h;
          first = line_kept p (10 ∷ []) s.blank (omega arith) ∙ one.1;
          between = λ k h l. line_kept p (10 ∷ []) k (omega arith) ∙ i.later began k h l;
          last = here;
          feeds = few;
          size = omega (arith, ap length all, length_push p 10);
        };
        text_is = sym all;
        lines_is = omega arith;
      };
      order = omega arith;
    }

-- what was looked at, once a line feed is
pub taken_feed : (bytes : List ℕ) (at' : ℕ) → at' < length bytes → get_or bytes at' 0 ≡ 10 → take (at' + 1) bytes ≡ take at' bytes ++ 10 ∷ []
taken_feed bytes at' room feed = take_more bytes at' 0 room ∙ ap (λ x. take at' bytes ++ x ∷ []) feed

-- and the line that it ends, as a part of the bytes
pub line_taken : (bytes : List ℕ) (line at' : ℕ) (part : List ℕ) → line ≤ at' → at' < length bytes → get_or bytes at' 0 ≡ 10 → part ≡ take (at' + 1 - line) (drop line bytes) → drop line (take at' bytes ++ 10 ∷ []) ≡ part
line_taken bytes line at' part order room feed is =
    let sum : at' + 1 ≡ line + (at' + 1 - line) = omega arith in
    ap (drop line) (sym (taken_feed bytes at' room feed))
    ∙ (ap (λ n. drop line (take n bytes)) sum ∙ (drop-take line (at' + 1 - line) bytes ∙ sym is))

-- a mark that ends what was looked at, among all the bytes
pub head_taken : (bytes : List ℕ) (n : ℕ) (s : Scan) → IsAtMark (take n bytes) s → HasHead bytes (take n bytes) (s.feeds - s.blank - 2)
head_taken bytes n s m =
    let order = m.order in
    let same : s.feeds - (s.blank + 2) ≡ s.feeds - s.blank - 2 = omega arith in
    subst (λ b. HasHead b (take n bytes) (s.feeds - s.blank - 2)) (take-append-drop n bytes)
    (has_head_more (take n bytes) (drop n bytes) (take n bytes) (s.feeds - s.blank - 2) (subst (λ k. HasHead (take n bytes) (take n bytes) k) same m.head))

-- the limits were reached without one
pub spent_taken : (bytes : List ℕ) (n : ℕ) (s : Scan) → n ≤ length bytes → IsScan (take n bytes) s → (67 ≤ s.feeds) ⊎ (16384 ≤ n) → ((more : List ℕ) → HasNoMark (bytes ++ more)) × IsSpent bytes
spent_taken bytes n s within i spent =
    let size : length (take n bytes) ≡ n = length-take-le n bytes within in
    let limit : (67 ≤ s.feeds) ⊎ (16384 ≤ length (take n bytes)) = elim spent [ inl many ↦ inl many | inr long ↦ inr (omega arith) ] in
    let feeds = i.feeds in (
      λ more. subst HasNoMark (sym (append_assoc (take n bytes) (drop n bytes) more) ∙ ap (λ z. z ++ more) (take-append-drop n bytes)) (scan_spent (take n bytes) (drop n bytes ++ more) s i limit),
      elim spent [
        | inl many ↦ inl (omega (arith, lines_more (take n bytes) (drop n bytes), ap (λ z. length (whole_lines z)) (take-append-drop n bytes)))
        | inr long ↦ inr (omega arith)
      ],
    )
