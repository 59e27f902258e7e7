-- What the values of the code stand for.
use Rattle.std.specs.Prelude.{Result}
use Rattle.text_forms.specs.Refusals.{Meant}
use Rattle.text_forms.specs.Stops.{Reads}
use Rattle.text_forms.specs.declared.refused.Refused.{Refused}
use Rattle.verilog_net.specs.declared.item.Item.{Item}
use Rattle.verilog_net.specs.declared.item.Item.TheVariants as items
use Rattle.text_forms.specs.declared.form_read.FormRead.{FormRead}
use Rattle.text_forms.specs.Reader.{whole_of as form_whole}
use Rattle.verilog_net.specs.declared.context.Context.{Context}
use Rattle.verilog_net.specs.Forms.{Tokens, WholeForm}
use Rattle.verilog_net.specs.Forms as grammar

-- an item as the grammar has it
abbrev pub item_text : Item → grammar.Item
item_text items.Nothing = grammar.Nothing
item_text (items.Refused code) = grammar.Refused code
item_text items.ModuleBegins = grammar.ModuleBegins
item_text (items.ModuleName name) = grammar.ModuleName name.now
item_text (items.Listed name) = grammar.Listed name.now
item_text items.ModuleEnds = grammar.ModuleEnds
item_text (items.Scalar role name) = grammar.Scalar role name.now
item_text (items.Left role bound) = grammar.Left role bound.now
item_text (items.Right bound) = grammar.Right bound.now
item_text (items.Further name) = grammar.Further name.now
item_text (items.Instance cell name line) = grammar.Instance cell.now name.now line
item_text (items.FurtherInstance name line) = grammar.FurtherInstance name.now line
item_text (items.Pin name) = grammar.Pin name.now
item_text items.NoConnection = grammar.NoConnection
item_text items.Constant = grammar.Constant
item_text (items.Net name) = grammar.Net name.now
item_text (items.Bit bus number) = grammar.Bit bus.now number.now
item_text items.InstanceEnds = grammar.InstanceEnds

-- a form that was read
abbrev pub whole_of : FormRead Item Context → WholeForm
whole_of r = form_whole item_text r

-- what was read is what the grammar reads, and these tokens are left
abbrev pub ReadsAs : Result (FormRead Item Context) Refused → Meant (WholeForm × Tokens) → Tokens → Type 0
ReadsAs result read left = Reads (λ r. (whole_of r, left)) result read
