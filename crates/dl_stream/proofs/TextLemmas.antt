-- Reading line by line gives the value of the whole, or its first fault.
use Rattle.std.proofs.Common.{◌≡◌, ◌≢◌, ℕ, ◌+◌, ◌≤◌, List, [], ◌∷◌, ◌++◌, length, Option, Some, None, Bor, Result, Ok, Err, IfOk, IfErr, refl, sym, ap, ◌∙◌, subst, append_assoc, add-zero, arith, length-append}
use Rattle.dl_names.specs.NameList.{Text, Extends}
use Rattle.dl_names.proofs.NameListLemmas.{Extends-same, Extends-trans}
use Rattle.dl_stream.specs.declared.streams.Streams.{Streams}
use Rattle.dl_stream.specs.declared.streams.Command.{Command}
use Rattle.dl_event.specs.declared.event.Edit.{Edit}
use Rattle.dl_stream.specs.declared.fault.Kind.{Kind}
use Rattle.dl_stream.specs.declared.fault.Kind.TheVariants.{NotEnded}
use Rattle.dl_stream.specs.declared.fault.StreamFault.{StreamFault}
use Rattle.dl_stream.specs.declared.fault.StreamFault.TheVariants as faults
use Rattle.dl_stream.specs.declared.place.Place.{Place as KeptPlace}
use Rattle.dl_stream.specs.declared.place.Place.TheVariants.{Outside}
use Rattle.dl_stream.specs.FileLines.{lines_of}
use Rattle.dl_stream.specs.Reading.{Place, outside, in_commit, Gives, HasFault, AreRead, none, line, FirstFault, here, later, not_ended, streams_at, IsValue, IsFirstFault, at_line, HoldsPart}
use Rattle.dl_stream.specs.Parts.{shown, IsCountedAt, ToldAt, wants_memory, is_told, IsOpenAt, wanting, not_closed, Ends, LineThen, IsFirstLine}

pub AreRead-push : {lines : List (List ℕ)} {n : ℕ} {names now next : List Text} {p q r : Place} (one : List ℕ) (m : ℕ) → AreRead lines n names p q now → m ≡ n + length lines
    → Gives one m now q r next → AreRead (lines ++ one ∷ []) n names p r next
AreRead-push {n = n} {names = names} {next = next} {p = p} {r = r} one m none is gives =
    let same : m ≡ n = is ∙ add-zero n in
    line (subst (λ (k : ℕ). Gives one k names p r next) same gives) none
AreRead-push {n = n} one m (line {lines = lines} g more) is gives =
    let same : m ≡ (n + 1) + length lines = let e = is in omega (arith, e) in
    line g (AreRead-push one m more same gives)

pub FirstFault-behind : {lines : List (List ℕ)} {n at : ℕ} {names now : List Text} {p q : Place} {k : Kind} (rest : List (List ℕ)) (m : ℕ) → AreRead lines n names p q now → m ≡ n + length lines
    → FirstFault rest m now q at k → FirstFault (lines ++ rest) n names p at k
FirstFault-behind {n = n} {at = at} {names = names} {p = p} {k = k} rest m none is first =
    subst (λ (j : ℕ). FirstFault rest j names p at k) (is ∙ add-zero n) first
FirstFault-behind {n = n} rest m (line {lines = lines} g more) is first =
    let same : m ≡ (n + 1) + length lines = let e = is in omega (arith, e) in
    later g (FirstFault-behind rest m more same first)

-- all lines are read, and a commit is open
read_open : {lines : List (List ℕ)} {n at : ℕ} {names after : List Text} {p q : Place} {b : List (List Command)} {c : List Command} {made : List Edit} → AreRead lines n names p q after
    → q ≡ in_commit b c at made → FirstFault lines n names p at NotEnded
read_open {n = n} {at = at} {names = names} none e = subst (λ x. FirstFault [] n names x at NotEnded) (sym e) not_ended
read_open (line g more) e = later g (read_open more e)

open_end : {bytes : List ℕ} {names after : List Text} {q : Place} {fault : StreamFault} → IsOpenAt q fault → fault ≢ faults.NoMemory → AreRead (lines_of bytes) 1 names outside q after
    → IsFirstFault bytes names fault
open_end wanting some all = absurd (some refl)
open_end not_closed some all = at_line (read_open all refl)

-- the lines before the rest are read, and the next line has this number
pub record Read (bytes rest : List ℕ) (names now : List Text) (n : ℕ) (place : KeptPlace) : Type 0 where
  pub done : List (List ℕ)
  pub cut : lines_of bytes ≡ done ++ lines_of rest
  pub read : AreRead done 1 names outside (shown place) now
  pub number : n ≡ 1 + length done
  pub counted : IsCountedAt place
  pub grows : Extends names now
  pub fits : n + length rest ≤ length bytes + 1

pub Read-first : (bytes : List ℕ) (names : List Text) → Read bytes bytes names names 1 Outside
Read-first bytes names = record { done = []; cut = refl; read = none; number = refl; counted = tt; grows = Extends-same names; fits = omega arith }

module _ (bytes rest : List ℕ) (names now : List Text) (n : ℕ) (place : KeptPlace) (read : Read bytes rest names now n place) (first : List ℕ) where
  -- the line is read, too
  pub Read-next : (behind : List ℕ) (next : List Text) (after : KeptPlace) → LineThen rest first behind → Gives first n now (shown place) (shown after) next → IsCountedAt after → Extends now next
      → Read bytes behind names next (n + 1) after
  Read-next behind next after then gives counted grew = record {
    done = read.done ++ first ∷ [];
    cut = read.cut ∙ ap (λ l. read.done ++ l) then.lines ∙ sym (append_assoc read.done (first ∷ []) (lines_of behind));
    read = AreRead-push first n read.read read.number gives;
    number = omega (arith, read.number, length-append read.done (first ∷ []));
    counted = counted;
    grows = Extends-trans names now next read.grows grew;
    fits = omega (arith, read.fits, then.shorter);
  }

  module _ (ends : lines_of rest ≡ first ∷ []) (next : List Text) (after : KeptPlace) (gives : Gives first n now (shown place) (shown after) next) where
    whole : AreRead (lines_of bytes) 1 names outside (shown after) next
    whole =
        subst (λ l. AreRead l 1 names outside (shown after) next) (sym (read.cut ∙ ap (λ l. read.done ++ l) ends))
        (AreRead-push first n read.read read.number gives)

    -- all is read
    pub Read-all : (streams : List (List Command)) → streams_at (shown after) ≡ Some streams → IsValue bytes names streams next
    Read-all streams ended = record { place = shown after; read = whole; ended = ended }

    -- a commit isn't ended
    pub Read-open : (fault : StreamFault) → IsOpenAt (shown after) fault → fault ≢ faults.NoMemory → IsFirstFault bytes names fault
    Read-open fault h some = open_end h some whole

  module _ (more : List (List ℕ)) (stands : lines_of rest ≡ first ∷ more) where
    cut_here : lines_of bytes ≡ read.done ++ first ∷ more
    cut_here = read.cut ∙ ap (λ l. read.done ++ l) stands

    -- the line has a fault, which is the first
    pub Read-fault : (fault : StreamFault) → ToldAt n (HasFault first now (shown place)) fault → fault ≢ faults.NoMemory → IsFirstFault bytes names fault
    Read-fault _ wants_memory some = absurd (some refl)
    Read-fault _ (is_told {k = k} h) some =
        at_line (subst (λ l. FirstFault l 1 names outside n k) (sym cut_here) (FirstFault-behind (first ∷ more) n read.read read.number (here h)))

    pub Read-part : (held : List Text) → Extends now held → HoldsPart bytes names held
    Read-part held grows = record {
      done = read.done;
      one = first;
      more = more;
      cut = cut_here;
      place = shown place;
      middle = now;
      read = read.read;
      grows = grows;
    }

  module _ (behind : Option (Bor (List ℕ))) (is_first : IsFirstLine rest first behind) where
    stand : (more : List (List ℕ)) × (lines_of rest ≡ first ∷ more)
    stand = by behind is_first
      where
        by : (b : Option (Bor (List ℕ))) → IsFirstLine rest first b → (more : List (List ℕ)) × (lines_of rest ≡ first ∷ more)
        by None is = ([], is)
        by (Some r) is = (lines_of r.now, is.lines)

    pub Line-fault : (fault told : StreamFault) → told ≡ fault → ToldAt n (HasFault first now (shown place)) fault → told ≢ faults.NoMemory → IsFirstFault bytes names told
    Line-fault fault told same h some = Read-fault stand.0 stand.1 told (subst (ToldAt n (HasFault first now (shown place))) (sym same) h) some

    pub Line-part : (held : List Text) → Extends now held → HoldsPart bytes names held
    Line-part held grows = Read-part stand.0 stand.1 held grows

  pub Line-grows : (held : List Text) → Extends now held → Extends names held
  Line-grows held grew = Extends-trans names now held read.grows grew

  -- ---- the end of the bytes

  module _ (ends : lines_of rest ≡ first ∷ []) (next : List Text) (after : KeptPlace) (gives : Gives first n now (shown place) (shown after) next) where
    pub Ends-value : (r : Result Streams StreamFault) → Ends (shown after) r → IfOk r (λ s. IsValue bytes names s.lists next)
    Ends-value (Ok s) h = Read-all ends next after gives s.lists h
    Ends-value (Err fault) h = tt

    pub Ends-fault : (r : Result Streams StreamFault) → Ends (shown after) r → IfErr r (λ fault. fault ≢ faults.NoMemory → IsFirstFault bytes names fault)
    Ends-fault (Ok s) h = tt
    Ends-fault (Err fault) h = Read-open ends next after gives fault h
