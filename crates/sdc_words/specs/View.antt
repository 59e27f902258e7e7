-- What the values of the code stand for.
use Rattle.std.specs.Prelude.{map, option_map}
use Rattle.xt_lex.specs.View.{text_of}
use Rattle.sdc_words.specs.declared.word.NameList.{NameList}
use Rattle.sdc_words.specs.declared.word.NameList.TheVariants as lists
use Rattle.sdc_words.specs.declared.word.Word.{Word}
use Rattle.sdc_words.specs.declared.word.Word.TheVariants as words
use Rattle.sdc_words.specs.declared.commands.Command.{Command}
use Rattle.sdc_words.specs.Words.{NamesText, One, Many, WordText, Bare, Braced, Quoted, Ports, Clocks, AllInputs}
use Rattle.sdc_words.specs.Words.{AllOutputs, Bracketed, CommandText}

-- the names in a list
abbrev pub names_text : NameList → NamesText
names_text (lists.One name) = One name.now
names_text (lists.Many names) = Many names.now

-- a word
abbrev pub word_text : Word → WordText
word_text (words.Bare text) = Bare text.now
word_text (words.Braced text) = Braced text.now
word_text (words.Quoted text) = Quoted text.now
word_text (words.Ports names) = Ports (names_text names)
word_text (words.Clocks names) = Clocks (names_text names)
word_text words.AllInputs = AllInputs
word_text words.AllOutputs = AllOutputs
word_text words.Bracketed = Bracketed

-- a command
abbrev pub command_text : Command → CommandText
command_text c = record { line = c.line; words = option_map (map word_text) c.words }
