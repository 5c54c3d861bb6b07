-- What a wiring is to its reader.
use Rattle.wiring.specs.declared.wiring.Wiring.{Wiring}
use Rattle.wiring.specs.Layout.{Layout, layout_of}

-- the layout of a wiring
abbrev pub layout : Wiring → Layout
layout w = layout_of w.count w.order w.slots
