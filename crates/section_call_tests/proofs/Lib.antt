mod WorkedHeld
mod WorkedReading
mod WorkedEdits
mod WorkedRings
