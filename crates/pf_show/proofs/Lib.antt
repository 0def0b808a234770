mod Spacing
mod TableSpacing
mod Anchors
