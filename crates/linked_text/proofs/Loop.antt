-- Reading values one after the other, as a loop does.
use Rattle.std.proofs.Common.{◌≡◌, ℕ, suc, ◌+◌, List, [], ◌∷◌, ◌++◌, length, Option, Some, Result, Ok, Err, refl, sym, subst, ap, ◌∙◌, append_assoc}
use Rattle.std.proofs.lemmas.List.{append-nil, length-append}
use Rattle.xt_model.specs.declared.net.Net.{Net}
use Rattle.linked_text.specs.declared.fault.Fault.{Fault}
use Rattle.linked_text.specs.declared.fault.Stop.{Stop}
use Rattle.linked_text.specs.declared.fault.Stop.TheVariants as stops
use Rattle.linked_text.specs.Gives.{Fails}
use Rattle.linked_text.specs.declared.head.NetHead.{NetHead}
use Rattle.linked_text.specs.declared.head.Sums.{Sums}
use Rattle.linked_text.specs.Meaning.{Read, with_front, many_at, head_at, heads_at, sums_with, net_at, nets_at, nets_behind}
use Rattle.xt_model.specs.Options as options
use Rattle.xt_model.specs.Results.{◌>>=◌}

regroup : {A : Type 0} (front more : List A) (read : Read (List A)) → with_front front (with_front more read) ≡ with_front (front ++ more) read
regroup {A} front more (Ok x) = ap (λ (xs : List A). Ok (xs, x.1)) (sym (append_assoc front more x.0))
regroup front more (Err e) = refl

failed : {A B : Type 0} (e : Stop) (read : Result A Fault) (total : Result B Fault) → ((f : Fault) → read ≡ Err f → total ≡ Err f) → Fails e read → Fails e total
failed stops.NoMemory read total f h = tt
failed (stops.At fault) read total f h = f fault h

-- a step that fails, and one behind a step that gave something
pub fails_here : {A B : Type 0} (e : Stop) (r : Result A Fault) (f : A → Result B Fault) → Fails e r → Fails e (r >>= f)
fails_here e r f h = failed e r (r >>= f) (λ fault refused. ap (λ t. t >>= f) refused) h

pub fails_later : {A B : Type 0} (e : Stop) {r : Result A Fault} {x : A} (f : A → Result B Fault) → r ≡ Ok x → Fails e (f x) → Fails e (r >>= f)
fails_later e f given h = subst (λ t. Fails e (t >>= f)) (sym given) h

-- what is still read begins with more, which was read
pub goes_on : {A : Type 0} (front more : List A) (still after total : Read (List A)) → still ≡ with_front more after
    → with_front front still ≡ total → with_front (front ++ more) after ≡ total
goes_on front more still after total next so_far = sym (regroup front more after) ∙ (sym (ap (with_front front) next) ∙ so_far)

-- what is still read is refused where its first value is
pub ends : {A B : Type 0} (e : Stop) (front : List A) (one : Result B Fault) (still total : Read (List A)) → ((f : Fault) → one ≡ Err f → still ≡ Err f) → Fails e one
    → with_front front still ≡ total → Fails e total
ends e front one still total next h so_far = failed e one total (λ f refused. sym so_far ∙ ap (with_front front) (next f refused)) h

-- no value is still read
pub is_done : {A : Type 0} (front : List A) (bytes : List ℕ) (still total : Read (List A)) → still ≡ Ok ([], bytes)
    → with_front front still ≡ total → total ≡ Ok (front, bytes)
is_done {A} front bytes still total none so_far = sym so_far ∙ (ap (with_front front) none ∙ ap (λ (xs : List A). Ok (xs, bytes)) (append-nil front))

-- the first of several values
pub many_next : {A : Type 0} (at : List ℕ → Read A) (k n : ℕ) (bytes : List ℕ) (x : A) (after : List ℕ) → k ≡ suc n → at bytes ≡ Ok (x, after)
    → many_at at k bytes ≡ with_front (x ∷ []) (many_at at n after)
many_next at k n bytes x after more h = rw (more, h) refl

-- ---- fields

abbrev pub with_values : {A : Type 0} → List A → Option (List A) → Option (List A)
with_values front found = options.◌>>=◌ found (λ xs. Some (front ++ xs))

-- ---- heads

-- the first of several heads
pub heads_next : (k n : ℕ) (names names_then : List (List ℕ)) (sums sums_then : Sums) (bytes after : List ℕ) (h : NetHead) → k ≡ suc n → head_at names sums bytes ≡ Ok (h, after)
    → names_then ≡ names ++ h.name ∷ [] → sums_then ≡ sums_with sums h → heads_at k names sums bytes ≡ with_front (h ∷ []) (heads_at n names_then sums_then after)
heads_next k n names names_then sums sums_then bytes after h more read entered added = rw (more, read, entered, added) refl

-- ---- nets

-- the next net is read
pub behind_next : (sinks : List ℕ) (tables own : ℕ) (nets : List Net) (h : NetHead) (heads : List NetHead) (bytes : List ℕ) (n : Net) (rest : List ℕ)
    → own ≡ length nets → net_at sinks tables own h bytes ≡ Ok (n, rest) → nets_behind sinks tables (nets ++ n ∷ []) heads rest ≡ nets_behind sinks tables nets (h ∷ heads) bytes
behind_next sinks tables own nets h heads bytes n rest place read =
    let one : length (nets ++ n ∷ []) ≡ length nets + 1 = length-append nets (n ∷ []) in
    let here : net_at sinks tables (length nets) h bytes ≡ Ok (n, rest) = subst (λ i. net_at sinks tables i h bytes ≡ Ok (n, rest)) place read in
    rw one (goes_on nets (n ∷ []) (nets_at sinks tables (length nets) (h ∷ heads) bytes) (nets_at sinks tables (length nets + 1) heads rest)
    (nets_behind sinks tables nets (h ∷ heads) bytes) (rw here refl) refl)
