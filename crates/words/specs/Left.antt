-- What is yet to be given.
use Rattle.std.specs.Prelude.{ℕ, List, drop}
use Rattle.words.specs.Parts.{lines_left as lines_from, words_left as words_from}
use Rattle.words.specs.declared.lines.Lines.{Lines}
use Rattle.words.specs.declared.words.Words.{Words}
use Rattle.words.specs.declared.reader.Reader.{Reader}

-- what is left of a reader's text
abbrev pub left : Reader → List ℕ
left r = drop r.at r.text.now

-- the lines that are left of a file
abbrev pub lines_left : Lines → List (List ℕ)
lines_left s = lines_from s.reader.text.now s.reader.at

-- the words that are left of a line: none once the last was given
abbrev pub words_left : Words → List (List ℕ)
words_left s = words_from s.reader.text.now s.reader.at s.reader.over
