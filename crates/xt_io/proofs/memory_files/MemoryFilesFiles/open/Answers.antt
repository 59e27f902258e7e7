use Rattle.std.proofs.Common.{◌≡◌, ◌∙◌, Some, refl, sym, ap, rules, arith}
use Rattle.xt_io.specs.Memory.{position_of}
use Rattle.xt_io.proofs.Named.{name_at-first, first-name_at}
use Rattle.xt_io.proofs.memory_files.MemoryFilesFiles.open.Goals as goal
use Rattle.xt_io.proofs.memory_files.MemoryFilesFiles.open.Goals.{in_default-via-in-Some+else-not-listed, in_default-via-in_default}

pub invariant_of-self : goal.invariant_of-self
invariant_of-self c =
    let first : Some c.in-Some.file ≡ position_of c.self.inside.files.items c.args.name.now =
    rw c.deref.ensures.value at c.in-Some.ensures.position in
    (search rules, (first-name_at _ _ _ first, omega arith))

pub returns-in-Some-clause-opened : goal.returns-in-Some-clause-opened
returns-in-Some-clause-opened c =
    let first : Some c.in-Some.file ≡ position_of c.self.inside.files.items c.args.name.now =
    rw c.deref.ensures.value at c.in-Some.ensures.position in
    rw (name_at-first c.self.inside.files.items c.args.name.now c.in-Some.file first)

pub returns-in_default-clause-content : goal.returns-in_default-clause-content
returns-in_default-clause-content c = λ m. rw (← c.self.view_is) refl

pub returns-in_default-clause-counts : goal.returns-in_default-clause-counts
returns-in_default-clause-counts c = λ m. rw (← c.self.view_is) (c.raise.ensures.counts (position_of c.self.inside.files.items m))

pub returns-in_default-clause-called : goal.returns-in_default-clause-called
returns-in_default-clause-called c = rw (← c.self.view_is) (record { files = refl; fail = ap (λ v. v.items) c.count-listed.ensures.listed; calls = c.count-listed.ensures.next })

pub returns-in-Some-clause-content : goal.returns-in-Some-clause-content
returns-in-Some-clause-content c = λ m. rw (← c.self.view_is) refl

pub returns-in-Some-clause-kept : goal.returns-in-Some-clause-kept
returns-in-Some-clause-kept c = λ m. rw (← c.self.view_is) refl

pub returns-in-Some-clause-unraised : goal.returns-in-Some-clause-unraised
returns-in-Some-clause-unraised c = rw (← c.self.view_is) (record { faults = refl; others = refl })

pub returns-in-Some-clause-called : goal.returns-in-Some-clause-called
returns-in-Some-clause-called c = rw (← c.self.view_is) (record { files = refl; fail = ap (λ v. v.items) c.count-listed.ensures.listed; calls = c.count-listed.ensures.next })

pub returns-in-Some-clause-counts : goal.returns-in-Some-clause-counts
returns-in-Some-clause-counts c = λ m. rw (← c.self.view_is) (omega arith)

pub invariant_of-self-in_default : goal.invariant_of-self-in_default
invariant_of-self-in_default c = (c.raise.ensures.len ∙ c.self.invariant.0, tt)

pub returns-in_default-clause-failed : goal.returns-in_default-clause-failed
returns-in_default-clause-failed c =
    let position = rw c.deref.ensures.value at c.position_of-found.ensures.position in
    let same : c.in_default.found ≡ position_of c.self.inside.files.items c.args.name.now =
    elim c.in_default.branch [ in_default-via-in-Some+else-not-listed w ↦ w.found-is ∙ (sym w.in-Some.is ∙ position) | in_default-via-in_default w ↦ w.found-is ∙ position ] in
    rw (← c.self.view_is) (rw same at c.raise.ensures.rose)

pub returns-in_default-clause-others : goal.returns-in_default-clause-others
returns-in_default-clause-others c = λ m.
    let position = rw c.deref.ensures.value at c.position_of-found.ensures.position in
    let same : c.in_default.found ≡ position_of c.self.inside.files.items c.args.name.now =
    elim c.in_default.branch [ in_default-via-in-Some+else-not-listed w ↦ w.found-is ∙ (sym w.in-Some.is ∙ position) | in_default-via-in_default w ↦ w.found-is ∙ position ] in
    rw (← c.self.view_is) (rw same at (c.raise.ensures.others (position_of c.self.inside.files.items m)))

pub returns-in_default-clause-raised : goal.returns-in_default-clause-raised
returns-in_default-clause-raised c =
    let position = rw c.deref.ensures.value at c.position_of-found.ensures.position in
    let same : c.in_default.found ≡ position_of c.self.inside.files.items c.args.name.now =
    elim c.in_default.branch [ in_default-via-in-Some+else-not-listed w ↦ w.found-is ∙ (sym w.in-Some.is ∙ position) | in_default-via-in_default w ↦ w.found-is ∙ position ] in
    rw (← c.self.view_is) (rw same at c.raise.ensures.raised)
