mod WorkedEdges
mod WorkedMeshes
mod WorkedCerts
