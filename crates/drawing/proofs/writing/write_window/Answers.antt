use Rattle.drawing.proofs.writing.write_window.Goals as goal

pub returns : goal.returns
returns g c = rw (c.as_slice.ensures.value, c.window_element.ensures) at c.write_whole.ensures
