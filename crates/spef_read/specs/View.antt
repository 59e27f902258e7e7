-- What the values of the code stand for.
use Rattle.std.specs.Prelude.{List, Result}
use Rattle.text_forms.specs.Stops.{Reads}
use Rattle.text_forms.specs.declared.form_read.FormRead.{FormRead}
use Rattle.text_forms.specs.declared.refused.Refused.{Refused}
use Rattle.text_forms.specs.Reader.{whole_of as form_whole}
use Rattle.spef_read.specs.declared.item.Item.{Item}
use Rattle.spef_read.specs.declared.item.Item.TheVariants as items
use Rattle.spef_read.specs.declared.context.Context.{Context}
use Rattle.spef_read.specs.Forms.{SpefForm, Tokens, WholeForm, first_form}
use Rattle.spef_read.specs.Forms as grammar

-- an item as the grammar has it
abbrev pub item_text : Item → grammar.Item
item_text items.Nothing = grammar.Nothing
item_text (items.Refused code) = grammar.Refused code
item_text (items.Separator which word) = grammar.Separator_is which word.now
item_text (items.Pair word) = grammar.Pair word.now
item_text (items.Brackets left right) = grammar.Brackets_are left.now right.now
item_text (items.UnitNumber quantity word) = grammar.UnitNumber quantity word.now
item_text (items.Unit word) = grammar.Unit_is word.now
item_text (items.PairNumber word) = grammar.PairNumber word.now
item_text (items.PairName word) = grammar.PairName word.now
item_text items.NetBegins = grammar.NetBegins
item_text (items.NetName word) = grammar.NetName word.now
item_text (items.Total word) = grammar.Total word.now
item_text (items.FirstNode word) = grammar.FirstNode word.now
item_text (items.CapNode word) = grammar.CapNode word.now
item_text (items.ResNode word) = grammar.ResNode word.now
item_text (items.CapValue word) = grammar.CapValue word.now
item_text (items.ResValue word) = grammar.ResValue word.now
item_text items.NetEnds = grammar.NetEnds
item_text items.TextEnds = grammar.TextEnds

-- a form that was read
abbrev pub whole_of : FormRead Item Context → WholeForm
whole_of r = form_whole item_text r

-- what was read of some tokens is the first of these forms, after which the others are left
abbrev pub ReadsForm : Result (FormRead Item Context) Refused → List SpefForm → Tokens → Tokens → Type 0
ReadsForm result fs ts left = Reads (λ r. (whole_of r, left)) result (first_form fs ts)
