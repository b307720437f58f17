-- How a run ends, from the text that goes with its status and from how that was printed.
use Rattle.std.proofs.Common.{◌≡◌, ℕ, ◌≤◌, ◌⊎◌, inl, inr, List, Option, None, Some, IfSome, refl}
use Rattle.dl_io.specs.Count.{HasRisen, NoneFalls}
use Rattle.dl_run.specs.Ending.{Run, HasReadFault, Says, Printed, Ends}
use Rattle.dl_run.specs.Ending.Says.{done, usage, refused, read_fault, no_memory}
use Rattle.dl_run.specs.Ending.Printed.{whole, part}
use Rattle.dl_run.specs.declared.status.Status.{Status}
use Rattle.dl_run.specs.declared.status.Status.TheVariants.{Done, Refused, ReadFault, WriteFault, NoMemory}
use Rattle.dl_run.specs.Texts.{read_fault_text, no_memory_text}

-- what holds where the library tells its files still holds where it says more
pub if_some : {A : Type 0} (told : Option A) {P Q : A → Type 0} → ((x : A) → P x → Q x) → IfSome told P → IfSome told Q
if_some None f h = tt
if_some (Some x) f h = f x h

-- what holds of whatever it tells
pub always : {A : Type 0} (told : Option A) {P : A → Type 0} → ((x : A) → P x) → IfSome told P
always None f = tt
always (Some x) f = f x

module _ (Prints : (List ℕ → List ℕ) → Status → List ℕ → Type 0) (told : Option (List ℕ → List ℕ)) (Fault : Type 0) where
  said_done : {status : Status} {text : List ℕ} → Says Prints told Fault status text → status ≡ Done → IfSome told (λ file_of. Prints file_of Done text)
  said_done (done p) is = p
  said_done (usage p) is = cc
  said_done (refused p) is = cc
  said_done (read_fault f) is = cc
  said_done no_memory is = cc

  said_refused : {status : Status} {text : List ℕ} → Says Prints told Fault status text → status ≡ Refused → IfSome told (λ file_of. Prints file_of Refused text)
  said_refused (done p) is = cc
  said_refused (usage p) is = cc
  said_refused (refused p) is = p
  said_refused (read_fault f) is = cc
  said_refused no_memory is = cc

  said_fault : {status : Status} {text : List ℕ} → Says Prints told Fault status text → status ≡ ReadFault → Fault × (text ≡ read_fault_text)
  said_fault (done p) is = cc
  said_fault (usage p) is = cc
  said_fault (refused p) is = cc
  said_fault (read_fault f) is = (f, refl)
  said_fault no_memory is = cc

  said_no_memory : {status : Status} {text : List ℕ} → Says Prints told Fault status text → status ≡ NoMemory → text ≡ no_memory_text
  said_no_memory (done p) is = cc
  said_no_memory (usage p) is = cc
  said_no_memory (refused p) is = cc
  said_no_memory (read_fault f) is = cc
  said_no_memory no_memory is = refl

  said_no_write_fault : {status : Status} {text : List ℕ} → Says Prints told Fault status text → status ≡ WriteFault → ⊥
  said_no_write_fault (done p) is = cc
  said_no_write_fault (usage p) is = cc
  said_no_write_fault (refused p) is = cc
  said_no_write_fault (read_fault f) is = cc
  said_no_write_fault no_memory is = cc

  -- where the files decide the status, it is the one that is printed
  said_only : ((file_of : List ℕ → List ℕ) (s o : Status) (t a : List ℕ) → Prints file_of s t → Prints file_of o a → s ≡ o)
      → {status : Status} {text : List ℕ} → Says Prints told Fault status text
      → IfSome told (λ file_of. (other : Status) (also : List ℕ) → Prints file_of other also → (Fault → ⊥) → (status ≡ other) ⊎ (status ≡ NoMemory))
  said_only one (done p) = if_some told (λ file_of p other also q none. inl (one file_of _ _ _ _ p q)) p
  said_only one (usage p) = if_some told (λ file_of p other also q none. inl (one file_of _ _ _ _ p q)) p
  said_only one (refused p) = if_some told (λ file_of p other also q none. inl (one file_of _ _ _ _ p q)) p
  said_only one (read_fault f) = always told (λ file_of other also q none. absurd (none f))
  said_only one no_memory = always told (λ file_of other also q none. inr refl)

module _ (Prints : (List ℕ → List ℕ) → Status → List ℕ → Type 0) (Asks : List ℕ → Type 0)
    (one : (file_of : List ℕ → List ℕ) (s o : Status) (t a : List ℕ) → Prints file_of s t → Prints file_of o a → s ≡ o)
    (told_before told : Option (List ℕ → List ℕ)) (reads_before reads : List ℕ → ℕ) (got_before got : Option (List ℕ)) (writes_before writes : ℕ)
    (unchanged : told ≡ told_before) (none_falls : NoneFalls reads_before reads) (no_less : writes_before ≤ writes)
    (status : Status) (text : List ℕ)
    (said : Says Prints told_before ((name : List ℕ) × Asks name × HasRisen (reads_before name) (reads name)) status text) where
  abbrev Fault : Type 0
  Fault = (name : List ℕ) × Asks name × HasRisen (reads_before name) (reads name)

  abbrev run_of : Status → Run
  run_of result = record {
    status = result;
    told_before = told_before;
    told = told;
    reads_before = reads_before;
    reads = reads;
    got_before = got_before;
    got = got;
    writes_before = writes_before;
    writes = writes;
  }

  pub ended : {result : Status} → Printed status text got_before got writes_before writes result → Ends Prints Asks (run_of result)
  ended (whole gets) = record {
    done = λ is. if_some told_before (λ file_of p. (text, p, gets)) (said_done Prints told_before Fault said is);
    refused = λ is. if_some told_before (λ file_of p. (text, p, gets)) (said_refused Prints told_before Fault said is);
    read_fault = λ is. let f = said_fault Prints told_before Fault said is in (f.0, rw f.1 at gets);
    no_memory = λ is. let t = said_no_memory Prints told_before Fault said is in rw t at gets;
    write_fault = λ is. absurd (said_no_write_fault Prints told_before Fault said is);
    part = λ is. absurd (said_no_write_fault Prints told_before Fault said is);
    complete = if_some told_before (λ file_of only other also p none _. only other also p none) (said_only Prints told_before Fault one said);
    unchanged = unchanged;
    reads = none_falls;
    writes = no_less;
  }
  ended (part some risen) = record {
    done = λ is. cc;
    refused = λ is. cc;
    read_fault = λ is. cc;
    no_memory = λ is. cc;
    write_fault = λ is. risen;
    part = λ is. (status, text, said, some);
    complete = always told_before (λ file_of other also p none unwritten. absurd (unwritten risen));
    unchanged = unchanged;
    reads = none_falls;
    writes = no_less;
  }

-- What ends by one definition of what is printed ends by another one that says the same.
module _ (Prints Same : (List ℕ → List ℕ) → Status → List ℕ → Type 0) (Asks More : List ℕ → Type 0)
    (to : (file_of : List ℕ → List ℕ) (s : Status) (t : List ℕ) → Prints file_of s t → Same file_of s t)
    (back : (file_of : List ℕ → List ℕ) (s : Status) (t : List ℕ) → Same file_of s t → Prints file_of s t)
    (asks : (name : List ℕ) → Asks name → More name) (run : Run) where
  fault : HasReadFault Asks run → HasReadFault More run
  fault (name, asked, risen) = (name, asks name asked, risen)

  said_same : {status : Status} {text : List ℕ} → Says Prints run.told_before (HasReadFault Asks run) status text
      → Says Same run.told_before (HasReadFault More run) status text
  said_same (done p) = done (if_some run.told_before (λ file_of p. to file_of _ _ p) p)
  said_same (usage p) = usage (if_some run.told_before (λ file_of p. to file_of _ _ p) p)
  said_same (refused p) = refused (if_some run.told_before (λ file_of p. to file_of _ _ p) p)
  said_same (read_fault f) = read_fault (fault f)
  said_same no_memory = no_memory

  pub Ends-same : Ends Prints Asks run → Ends Same More run
  Ends-same ends = record {
    done = λ is. if_some run.told_before (λ file_of w. (w.0, to file_of _ _ w.1, w.2)) (ends.done is);
    refused = λ is. if_some run.told_before (λ file_of w. (w.0, to file_of _ _ w.1, w.2)) (ends.refused is);
    read_fault = λ is. let f = ends.read_fault is in (fault f.0, f.1);
    no_memory = ends.no_memory;
    write_fault = ends.write_fault;
    part = λ is. let w = ends.part is in (w.0, w.1, said_same w.2, w.3);
    complete = if_some run.told_before (λ file_of only s t p none. only s t (back file_of s t p) (λ f. none (fault f))) ends.complete;
    unchanged = ends.unchanged;
    reads = ends.reads;
    writes = ends.writes;
  }
