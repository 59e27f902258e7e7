-- What a pass over words with marks knows, and what each call makes of it.
use Rattle.std.specs.Prelude.{ℕ, ◌+◌, ◌*◌, ◌==◌, nat_lt, not, Bool, false, ◌||◌, List, [], ◌∷◌, ◌++◌, length, map}
use Rattle.std.specs.Prelude.{Option, Some, None, if◌then◌else◌}
use Rattle.std.specs.List.{filter, range_with_len}
use Rattle.xt_model.specs.declared.net.NetId.{NetId}
use Rattle.chaos_core.specs.declared.setting.Setting.{Setting}
use Rattle.chaos_core.specs.Boards.{nets_of}
use Rattle.chaos_core.specs.Tasks.{list_of}
use Rattle.window_words.specs.declared.view.View.{View}
use Rattle.window_words.specs.Views.{first_view, with_seen, begun_anew, with_one_out, sent_out, with_both, spent_view}
use Rattle.dirty_words.specs.declared.view.Flight.{Flight}
use Rattle.dirty_words.specs.declared.view.DirtyView.{DirtyView}

-- the run that the words are of, and the read lists of its design
pub record Run : Type 0 where
  pub setting : Setting
  pub lists : List (List NetId)

abbrev pub run_of : DirtyView → Run
run_of v = record { setting = v.base.setting; lists = v.lists }

-- what passes without marks know of as much
abbrev pub bases : List DirtyView → List View
bases views = map (λ (v : DirtyView). v.base) views

-- ---- lists of nets
abbrev pub has : List ℕ → ℕ → Bool
has [] net = false
has (m ∷ nets) net = (m == net) || has nets net

-- all but one
abbrev pub without : ℕ → List ℕ → List ℕ
without net nets = filter (λ m. not (m == net)) nets

-- all but several
abbrev pub without_all : List ℕ → List ℕ → List ℕ
without_all others nets = filter (λ m. not (has others m)) nets

-- the readers of a net: the nets whose read list has it, in order of number
abbrev pub readers_of : List (List NetId) → ℕ → List ℕ
readers_of lists net = filter (λ reader. has (list_of lists reader) net) (range_with_len 0 (length lists))

-- ---- views
-- the first pass of a board knows the words of the start, and found every net marked
abbrev pub first_dirty : Run → DirtyView
first_dirty r = record {
  base = first_view r.setting;
  lists = r.lists;
  flight = None;
  owed = [];
  clear = [];
  found = range_with_len 0 (nets_of r.setting);
  taken = [];
  noted = [];
  missed = [];
}

-- v with the mark of a net taken: the net is in flight
abbrev pub with_taken : DirtyView → ℕ → DirtyView
with_taken v net = record v {
  flight = Some (record { net = net; numbers = []; published = 0 });
  taken = v.taken ++ net ∷ [];
}

-- v with a net found unmarked when its mark was to be taken
abbrev pub with_missed : DirtyView → ℕ → DirtyView
with_missed v net = record v { taken = v.taken ++ net ∷ []; missed = v.missed ++ net ∷ [] }

-- v with one more number loaded for the net in flight
abbrev pub with_loaded : DirtyView → Flight → ℕ → ℕ → DirtyView
with_loaded v f word number = record v {
  base = with_seen v.base word number v.base.made;
  flight = Some (record f { numbers = f.numbers ++ number ∷ [] });
}

-- a flight with one more word published; with the eighth it ends
abbrev pub flight_after : Flight → Option Flight
flight_after f = if nat_lt (f.published + 1) 8 then Some (record f { published = f.published + 1 }) else None

-- what is owed once a word of a net was moved from one number to another: the readers of the net too
abbrev pub owed_after : DirtyView → ℕ → ℕ → ℕ → List ℕ
owed_after v net number left = if left == number then v.owed else v.owed ++ readers_of v.lists net

-- v with the next word of the net in flight published, in which one number was found and another left
abbrev pub with_published : DirtyView → Flight → ℕ → ℕ → DirtyView
with_published v f number left = record v {
  base = with_seen v.base (8 * f.net + f.published) left (v.base.made + 1);
  flight = flight_after f;
  owed = owed_after v f.net number left;
}

-- v with the mark of a net set
abbrev pub with_noted : DirtyView → ℕ → DirtyView
with_noted v net = record v {
  owed = without net v.owed;
  noted = v.noted ++ net ∷ [];
  clear = without net v.clear;
}

-- v with a net found marked in a look
abbrev pub with_found : DirtyView → ℕ → DirtyView
with_found v net = record v {
  found = v.found ++ net ∷ [];
  clear = without net v.clear;
  taken = without net v.taken;
  noted = without net v.noted;
}

-- v with a net found unmarked in a look
abbrev pub with_clear : DirtyView → ℕ → DirtyView
with_clear v net = record v {
  clear = v.clear ++ net ∷ [];
  found = without net v.found;
  noted = without net v.noted;
}

abbrev pub with_drawn : DirtyView → ℕ → DirtyView
with_drawn v number = record v { base = record (v.base) { drawn = v.base.drawn ++ number ∷ [] } }

-- v with all drawn numbers forgotten; the nets that were taken are found no more
abbrev pub with_anew : DirtyView → DirtyView
with_anew v = record v { base = begun_anew v.base; found = without_all v.taken v.found; taken = [] }

-- v with one more pass out: it then knows of no unmarked net
abbrev pub with_pass_out : DirtyView → DirtyView
with_pass_out v = record v { base = with_one_out v.base; clear = [] }

-- the pass that is split off from v
abbrev pub pass_sent : DirtyView → DirtyView
pass_sent v = record v {
  base = sent_out v.base;
  flight = None;
  owed = [];
  clear = [];
  taken = [];
  noted = [];
  missed = [];
}

-- v with what w knows
abbrev pub with_joined : DirtyView → DirtyView → DirtyView
with_joined v w = record v {
  base = with_both v.base w.base;
  taken = v.taken ++ w.taken;
  noted = v.noted ++ w.noted;
}

-- what is left of a pass that was joined
abbrev pub spent_pass : DirtyView
spent_pass = record {
  base = spent_view;
  lists = [];
  flight = None;
  owed = [];
  clear = [];
  found = [];
  taken = [];
  noted = [];
  missed = [];
}
