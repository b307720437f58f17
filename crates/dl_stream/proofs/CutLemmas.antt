-- Bytes are cut where a byte is found, and a line where a line feed is.
use Rattle.std.proofs.Common.{◌≡◌, ℕ, ◌+◌, ◌-◌, ◌<◌, Bool, true, false, ◌&&◌, cond, nat_eq, suc, List, [], ◌∷◌, length, take, drop, Option, Some, None, refl, sym, ap, ◌∙◌, subst, add-zero, arith}
use Rattle.std.specs.List.{position, position_from}
use Rattle.std.specs.Cmp.Lexicographic.{pointwise}
use Rattle.std.proofs.lemmas.Iterator.Adapters.{position_from-zero}
use Rattle.std.proofs.lemmas.List.{take_all, length-drop}
use Rattle.dl_stream.specs.FileLines.{in_front, is_line_feed_next, lines_of}
use Rattle.dl_stream.specs.Forms.{before_byte, behind_byte}
use Rattle.dl_stream.specs.Parts.{without_return}

-- where the first such byte stands
pub record FoundAt (stop : ℕ) (bytes : List ℕ) (n i : ℕ) : Type 0 where
  pub k : ℕ
  pub is : i ≡ n + k
  pub before : before_byte stop bytes ≡ take k bytes
  pub behind : behind_byte stop bytes ≡ Some (drop (suc k) bytes)

split : (stop b : ℕ) (bytes : List ℕ) (n : ℕ) (r : Option ℕ) → position_from (λ c. nat_eq c stop) n (b ∷ bytes) ≡ r → (t : Bool) → nat_eq b stop ≡ t
    → cond t (Some n) (position_from (λ c. nat_eq c stop) (n + 1) bytes) ≡ r
split stop b bytes n r e t at = subst (λ (v : Bool). cond v (Some n) (position_from (λ c. nat_eq c stop) (n + 1) bytes) ≡ r) at e

pub found_at : (stop : ℕ) (bytes : List ℕ) (n i : ℕ) → position_from (λ c. nat_eq c stop) n bytes ≡ Some i → FoundAt stop bytes n i
found_at stop [] n i e = absurd (cc)
found_at stop (b ∷ bytes) n i e = by (nat_eq b stop) refl (λ h. found_at stop bytes (n + 1) i h)
  where
    by : (r : Bool) → nat_eq b stop ≡ r → (position_from (λ c. nat_eq c stop) (n + 1) bytes ≡ Some i → FoundAt stop bytes (n + 1) i) → FoundAt stop (b ∷ bytes) n i
    by true at more = record {
      k = 0;
      is = let first : Some n ≡ Some i = split stop b bytes n (Some i) e true at in (let same : n ≡ i = cc in sym same ∙ sym (add-zero n));
      before = rw at refl;
      behind = rw at refl;
    }
    by false at more =
        let rest = more (split stop b bytes n (Some i) e false at) in
        record {
          k = suc rest.k;
          is = omega (arith, rest.is);
          before = subst (λ (v : Bool). cond v [] (b ∷ before_byte stop bytes) ≡ b ∷ take rest.k bytes) (sym at) (ap (λ l. b ∷ l) rest.before);
          behind = subst (λ (v : Bool). cond v (Some bytes) (behind_byte stop bytes) ≡ Some (drop (suc rest.k) bytes)) (sym at) rest.behind;
        }

-- there is no such byte
pub not_found : (stop : ℕ) (bytes : List ℕ) (n : ℕ) → position_from (λ c. nat_eq c stop) n bytes ≡ None → (bytes ≡ before_byte stop bytes) × (behind_byte stop bytes ≡ None)
not_found stop [] n e = (refl, refl)
not_found stop (b ∷ bytes) n e = by (nat_eq b stop) refl (λ h. not_found stop bytes (n + 1) h)
  where
    by : (r : Bool) → nat_eq b stop ≡ r → (position_from (λ c. nat_eq c stop) (n + 1) bytes ≡ None → (bytes ≡ before_byte stop bytes) × (behind_byte stop bytes ≡ None))
        → (b ∷ bytes ≡ before_byte stop (b ∷ bytes)) × (behind_byte stop (b ∷ bytes) ≡ None)
    by true at more = let bad : Some n ≡ None = split stop b bytes n None e true at in absurd (cc)
    by false at more =
        let rest = more (split stop b bytes n None e false at) in
        (rw at (ap (λ l. b ∷ l) rest.0), rw at rest.1)

pub cut_none : (stop : ℕ) (bytes : List ℕ) → None ≡ position (λ c. nat_eq c stop) bytes → (bytes ≡ before_byte stop bytes) × (behind_byte stop bytes ≡ None)
cut_none stop bytes e = not_found stop bytes 0 (sym (e ∙ position_from-zero (λ c. nat_eq c stop) bytes))

-- what a range to the end shows
pub to_the_end : (bytes : List ℕ) (n : ℕ) → take (length bytes - n) (drop n bytes) ≡ drop n bytes
to_the_end bytes n = take_all (length bytes - n) (drop n bytes) (omega (arith, length-drop n bytes))

module _ (stop : ℕ) (bytes : List ℕ) (i : ℕ) (e : Some i ≡ position (λ c. nat_eq c stop) bytes) where
  found : FoundAt stop bytes 0 i
  found = found_at stop bytes 0 i (sym (e ∙ position_from-zero (λ c. nat_eq c stop) bytes))

  place : found.k ≡ i
  place = let is = found.is in omega arith

  pub cut_before : take i bytes ≡ before_byte stop bytes
  cut_before = sym (found.before ∙ ap (λ (k : ℕ). take k bytes) place)

  pub cut_behind : Some (take (length bytes - (i + 1)) (drop (i + 1) bytes)) ≡ behind_byte stop bytes
  cut_behind =
      let next : suc found.k ≡ i + 1 = let is = found.is in omega arith in
      ap (λ l. Some l) (to_the_end bytes (i + 1)) ∙ sym (found.behind ∙ ap (λ (k : ℕ). Some (drop k bytes)) next)

-- ---- lines

no_feed : (bytes : List ℕ) → behind_byte 10 bytes ≡ None → is_line_feed_next bytes ≡ false
no_feed [] none = refl
no_feed (b ∷ bytes) none = by (nat_eq b 10) refl
  where
    by : (r : Bool) → nat_eq b 10 ≡ r → nat_eq b 10 ≡ false
    by false at = at
    by true at = let bad : Some bytes ≡ None = subst (λ (v : Bool). cond v (Some bytes) (behind_byte 10 bytes) ≡ None) at none in absurd (cc)

-- the byte goes in front of the first line
in_line : (b : ℕ) (bytes : List ℕ) → nat_eq b 10 ≡ false → (nat_eq b 13 && is_line_feed_next bytes) ≡ false → lines_of (b ∷ bytes) ≡ in_front b (lines_of bytes)
in_line b bytes no_lf no_pair = rw (no_lf, no_pair) refl

and_false : (r : Bool) → (r && false) ≡ false
and_false true = refl
and_false false = refl

-- where no line feed stands, all is one line
pub one_line : (bytes : List ℕ) → behind_byte 10 bytes ≡ None → lines_of bytes ≡ before_byte 10 bytes ∷ []
one_line [] none = refl
one_line (b ∷ bytes) none = by (nat_eq b 10) refl (λ h. one_line bytes h)
  where
    by : (r : Bool) → nat_eq b 10 ≡ r → (behind_byte 10 bytes ≡ None → lines_of bytes ≡ before_byte 10 bytes ∷ []) → lines_of (b ∷ bytes) ≡ before_byte 10 (b ∷ bytes) ∷ []
    by true at more = let bad : Some bytes ≡ None = subst (λ (v : Bool). cond v (Some bytes) (behind_byte 10 bytes) ≡ None) at none in absurd (cc)
    by false at more =
        let later : behind_byte 10 bytes ≡ None = subst (λ (v : Bool). cond v (Some bytes) (behind_byte 10 bytes) ≡ None) at none in
        let pair : (nat_eq b 13 && is_line_feed_next bytes) ≡ false = ap (λ r. nat_eq b 13 && r) (no_feed bytes later) ∙ and_false (nat_eq b 13) in
        in_line b bytes at pair ∙ ap (in_front b) (more later) ∙ sym (ap (λ (v : Bool). cond v [] (b ∷ before_byte 10 bytes) ∷ []) at)

keeps_other : (b : ℕ) (line : List ℕ) → nat_eq b 13 ≡ false → without_return (b ∷ line) ≡ b ∷ without_return line
keeps_other b [] no_cr = rw no_cr refl
keeps_other b (c ∷ line) no_cr = refl

-- a line feed ends the first line
pub line_then : (bytes rest : List ℕ) → behind_byte 10 bytes ≡ Some rest → lines_of bytes ≡ without_return (before_byte 10 bytes) ∷ lines_of rest
line_then [] rest some = absurd (cc)
line_then (b ∷ bytes) rest some = by (nat_eq b 10) refl (nat_eq b 13) refl (is_line_feed_next bytes) refl (λ h. line_then bytes rest h)
  where
    step : (r : Bool) → nat_eq b 10 ≡ r → cond r (Some bytes) (behind_byte 10 bytes) ≡ Some rest
    step r at = subst (λ (v : Bool). cond v (Some bytes) (behind_byte 10 bytes) ≡ Some rest) at some

    front : nat_eq b 10 ≡ false → without_return (b ∷ before_byte 10 bytes) ∷ lines_of rest ≡ without_return (before_byte 10 (b ∷ bytes)) ∷ lines_of rest
    front at = ap (λ (v : Bool). without_return (cond v [] (b ∷ before_byte 10 bytes)) ∷ lines_of rest) (sym at)

    feed : (bytes : List ℕ) → is_line_feed_next bytes ≡ true → before_byte 10 bytes ≡ []
    feed [] e = absurd (cc)
    feed (c ∷ bytes) e = rw e refl

    more_line : (bytes : List ℕ) → is_line_feed_next bytes ≡ false → behind_byte 10 bytes ≡ Some rest → without_return (b ∷ before_byte 10 bytes) ≡ b ∷ without_return (before_byte 10 bytes)
    more_line [] e h = absurd (cc)
    more_line (c ∷ bytes) e h = rw e refl

    by : (r : Bool) → nat_eq b 10 ≡ r → (p : Bool) → nat_eq b 13 ≡ p → (f : Bool) → is_line_feed_next bytes ≡ f
        → (behind_byte 10 bytes ≡ Some rest → lines_of bytes ≡ without_return (before_byte 10 bytes) ∷ lines_of rest)
        → lines_of (b ∷ bytes) ≡ without_return (before_byte 10 (b ∷ bytes)) ∷ lines_of rest
    by true at p _ f _ more =
        let same : Some bytes ≡ Some rest = step true at in
        let one : bytes ≡ rest = cc in
        rw at (ap (λ l. [] ∷ lines_of l) one)
    by false at true cr true lf more =
        let empty = feed bytes lf in
        let here : lines_of (b ∷ bytes) ≡ lines_of bytes = rw (at, cr, lf) refl in
        let left : without_return (before_byte 10 bytes) ≡ [] = ap without_return empty in
        let right : without_return (b ∷ before_byte 10 bytes) ≡ [] = ap (λ l. without_return (b ∷ l)) empty ∙ rw cr refl in
        here ∙ more (step false at) ∙ ap (λ l. l ∷ lines_of rest) (left ∙ sym right) ∙ front at
    by false at true cr false lf more =
        let pair : (nat_eq b 13 && is_line_feed_next bytes) ≡ false = ap (λ r. nat_eq b 13 && r) lf ∙ and_false (nat_eq b 13) in
        in_line b bytes at pair ∙ ap (in_front b) (more (step false at)) ∙ ap (λ l. l ∷ lines_of rest) (sym (more_line bytes lf (step false at))) ∙ front at
    by false at false no_cr f _ more =
        let pair : (nat_eq b 13 && is_line_feed_next bytes) ≡ false = ap (λ r. r && is_line_feed_next bytes) no_cr in
        in_line b bytes at pair ∙ ap (in_front b) (more (step false at)) ∙ ap (λ l. l ∷ lines_of rest) (sym (keeps_other b (before_byte 10 bytes) no_cr)) ∙ front at

pub behind_shorter : (stop : ℕ) (bytes rest : List ℕ) → behind_byte stop bytes ≡ Some rest → length rest < length bytes
behind_shorter stop [] rest e = absurd (cc)
behind_shorter stop (b ∷ bytes) rest e = by (nat_eq b stop) refl (λ h. behind_shorter stop bytes rest h)
  where
    by : (r : Bool) → nat_eq b stop ≡ r → (behind_byte stop bytes ≡ Some rest → length rest < length bytes) → length rest < length (b ∷ bytes)
    by true at more =
        let same : Some bytes ≡ Some rest = subst (λ (v : Bool). cond v (Some bytes) (behind_byte stop bytes) ≡ Some rest) at e in
        let one : bytes ≡ rest = cc in
        omega (arith, ap length one)
    by false at more =
        let later : behind_byte stop bytes ≡ Some rest = subst (λ (v : Bool). cond v (Some bytes) (behind_byte stop bytes) ≡ Some rest) at e in
        omega (arith, more later)

-- ---- the carriage return at the end

less_one : (b c : ℕ) (bytes : List ℕ) → length (b ∷ c ∷ bytes) - 1 ≡ suc (length (c ∷ bytes) - 1)
less_one b c bytes = omega arith

pub stripped : (bytes : List ℕ) → pointwise nat_eq (drop (length bytes - 1) bytes) (13 ∷ []) ≡ true → take (length bytes - 1) bytes ≡ without_return bytes
stripped [] e = absurd (cc)
stripped (b ∷ []) e = by (nat_eq b 13) refl
  where
    by : (r : Bool) → nat_eq b 13 ≡ r → [] ≡ without_return (b ∷ [])
    by true at = rw at refl
    by false at = let bad : false ≡ true = subst (λ (r : Bool). (r && true) ≡ true) at e in absurd (cc)
stripped (b ∷ c ∷ bytes) e =
    subst (λ (n : ℕ). take n (b ∷ c ∷ bytes) ≡ b ∷ without_return (c ∷ bytes)) (sym (less_one b c bytes))
    (ap (λ l. b ∷ l) (stripped (c ∷ bytes) (subst (λ (n : ℕ). pointwise nat_eq (drop n (b ∷ c ∷ bytes)) (13 ∷ []) ≡ true) (less_one b c bytes) e)))

pub not_stripped : (bytes : List ℕ) → pointwise nat_eq (drop (length bytes - 1) bytes) (13 ∷ []) ≡ false → bytes ≡ without_return bytes
not_stripped [] e = refl
not_stripped (b ∷ []) e = by (nat_eq b 13) refl
  where
    by : (r : Bool) → nat_eq b 13 ≡ r → b ∷ [] ≡ without_return (b ∷ [])
    by false at = rw at refl
    by true at = let bad : true ≡ false = subst (λ (r : Bool). (r && true) ≡ false) at e in absurd (cc)
not_stripped (b ∷ c ∷ bytes) e =
    ap (λ l. b ∷ l) (not_stripped (c ∷ bytes) (subst (λ (n : ℕ). pointwise nat_eq (drop n (b ∷ c ∷ bytes)) (13 ∷ []) ≡ false) (less_one b c bytes) e))
